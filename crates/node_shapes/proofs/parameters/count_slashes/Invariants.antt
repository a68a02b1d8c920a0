use Rattle.std.proofs.Common.{◌≡◌, ◌+◌, ◌≤◌, length, filter, drop}
use Rattle.py_base.specs.Nodes.{kind_at}
use Rattle.node_shapes.specs.Parameters.{is_slash}
use Rattle.node_shapes.proofs.parameters.count_slashes.Given as goal

abbrev pub invariant-loop-part : goal.invariant-loop-part
invariant-loop-part l =
    (l.slashes ≤ l.part-index) × (l.slashes + length (filter (λ p. is_slash (kind_at l.fn.tree.nodes p)) (drop l.part-index l.parts)) ≡ length (filter (λ p. is_slash (kind_at l.fn.tree.nodes p)) l.parts))
