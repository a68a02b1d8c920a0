use Rattle.std.proofs.Common.{◌≡◌, ◌+◌, ◌≤◌, length, drop, filter}
use Rattle.binding_sources.specs.Sources.{is_parameter}
use Rattle.binding_sources.proofs.bindings.count_parameters.Given as goal

abbrev pub invariant-loop-part : goal.invariant-loop-part
invariant-loop-part l =
    (l.count ≤ l.part-index) × (l.count + length (filter (is_parameter l.fn.tree.nodes) (drop l.part-index l.parts)) ≡ length (filter (is_parameter l.fn.tree.nodes) l.parts))
