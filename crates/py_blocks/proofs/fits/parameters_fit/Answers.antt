use Rattle.std.proofs.Common.{length, arith}
use Rattle.py_base.specs.TreeLaws.{AreOlder-later}
use Rattle.py_blocks.proofs.fits.parameters_fit.Goals as goal

pub are_ordered-ordered-requires-clause-within : goal.are_ordered-ordered-requires-clause-within
are_ordered-ordered-requires-clause-within c =
    rw c.as_slice-2.ensures (AreOlder-later c.args.id.0 (length c.args.tree.now.nodes) c.node_of-node.result.now.parts (omega (arith, c.requires.within)) c.node_of-node.ensures.older)
