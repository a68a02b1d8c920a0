use Rattle.std.proofs.Common.{length, arith}
use Rattle.py_base.specs.TreeLaws.{AreOlder-later}
use Rattle.py_blocks.proofs.walk.opens_block.Goals as goal

pub ends_in_colon-requires-clause-within : goal.ends_in_colon-requires-clause-within
ends_in_colon-requires-clause-within c =
    rw c.as_slice.ensures (AreOlder-later c.args.id.0 (length c.args.tree.now.nodes) c.node_of-node.result.now.parts (omega (arith, c.requires.within)) c.node_of-node.ensures.older)
