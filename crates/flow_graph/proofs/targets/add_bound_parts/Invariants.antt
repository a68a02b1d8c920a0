use Rattle.std.proofs.Common.{◌≡◌, ◌++◌, drop, length}
use Rattle.flow_graph.specs.Targets.{bound_from}
use Rattle.flow_graph.proofs.targets.add_bound_parts.Given as goal

abbrev pub invariant-loop-place : goal.invariant-loop-place
invariant-loop-place l =
    l.list ++ bound_from l.tree.nodes l.kind (length l.parts) l.place (drop l.place l.parts) ≡ l.initial.list ++ bound_from l.tree.nodes l.kind (length l.parts) 0 l.parts
