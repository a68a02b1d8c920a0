use Rattle.std.proofs.Common.{◌≡◌, ◌++◌, drop}
use Rattle.py_base.specs.declared.node.Node.{Node}
use Rattle.flow_graph.specs.Targets.{bound_by, gather_nodes}
use Rattle.flow_graph.proofs.targets.bound_nodes.Given as goal

abbrev pub invariant-loop-place : goal.invariant-loop-place
invariant-loop-place l =
    l.list ++ gather_nodes (λ (node : Node). bound_by l.tree.nodes node.kind node.parts) (drop l.place l.tree.nodes)
    ≡ gather_nodes (λ (node : Node). bound_by l.tree.nodes node.kind node.parts) l.tree.nodes
