use Rattle.std.proofs.Common.{◌≡◌, length, map}
use Rattle.py_grammar.specs.Proper.{grade_for, bar_for, are_ordered}
use Rattle.py_grammar.proofs.OrderLemmas.{scan}
use Rattle.py_grammar.proofs.order.is_in_order.Given as goal

abbrev pub invariant-parts : goal.invariant-parts
invariant-parts l = scan (grade_for l.order) (bar_for l.order) l.highest (map (λ x. x.kind) l.rest) ≡ are_ordered (grade_for l.order) (bar_for l.order) (map (λ x. x.kind) l.parts)

abbrev pub decreases-parts : goal.decreases-parts
decreases-parts l = length l.rest
