use Rattle.std.proofs.Common.{◌≡◌, ◌+◌, drop}
use Rattle.std.specs.List.{position_or_len}
use Rattle.py_scopes.specs.Kinds.{is_for}
use Rattle.py_base.specs.Nodes.{kind_at}
use Rattle.py_scopes.proofs.way.first_for.Given as goal

abbrev pub invariant-loop-place : goal.invariant-loop-place
invariant-loop-place l = position_or_len (λ p. is_for (kind_at l.tree.nodes p)) l.parts ≡ l.place + position_or_len (λ p. is_for (kind_at l.tree.nodes p)) (drop l.place l.parts)
