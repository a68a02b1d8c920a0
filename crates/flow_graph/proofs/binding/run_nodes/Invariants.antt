use Rattle.std.proofs.Common.{◌≡◌, ◌++◌, drop}
use Rattle.flow_graph.specs.Bindings.{run_nodes}
use Rattle.flow_graph.proofs.binding.run_nodes.Given as goal

abbrev pub invariant-loop-place : goal.invariant-loop-place
invariant-loop-place l = l.list ++ run_nodes (drop l.place l.graph.points) ≡ run_nodes l.graph.points
