use Rattle.std.proofs.Common.{ap}
use Rattle.py_base.specs.declared.node.Node.{Node}
use Rattle.flow_graph.specs.Targets.{bound_by, gather_nodes}
use Rattle.flow_graph.proofs.Gathering.{gather_step}
use Rattle.flow_graph.proofs.targets.bound_nodes.Goals as goal

pub loop-place-preserved : goal.loop-place-preserved
loop-place-preserved c =
    gather_step (λ (node : Node). bound_by c.args.tree.now.nodes node.kind node.parts) c.args.tree.now.nodes c.loop-place.place c.node-node.result.now
    c.loop-place.list c.add_bound.new.list (gather_nodes (λ (node : Node). bound_by c.args.tree.now.nodes node.kind node.parts) c.args.tree.now.nodes)
    (bound_by c.args.tree.now.nodes c.node-node.result.now.kind c.as_slice.result.now)
    c.node-node.ensures.value c.loop-place.invariant c.in_ok-add_bound.ensures
    (ap (λ parts. bound_by c.args.tree.now.nodes c.node-node.result.now.kind parts) c.as_slice.ensures)
