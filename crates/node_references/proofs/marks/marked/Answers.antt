use Rattle.std.proofs.Common.{take}
use Rattle.node_references.proofs.Marking.{mark_next}
use Rattle.node_references.proofs.marks.marked.Goals as goal

pub loop-node-preserved : goal.loop-node-preserved
loop-node-preserved c = mark_next c.args.nodes.now c.loop-node.node-index c.args.count c.mark.new.marks c.loop-node-test.true
    (c.mark.ensures (take c.loop-node.node-index c.args.nodes.now) c.args.count c.loop-node.invariant)
