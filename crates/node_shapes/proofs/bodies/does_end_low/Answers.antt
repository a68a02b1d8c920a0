use Rattle.node_shapes.proofs.Members.{ends-start}
use Rattle.node_shapes.proofs.bodies.does_end_low.Goals as goal

pub loop-byte-init : goal.loop-byte-init
loop-byte-init c = ends-start c.args.text.now
