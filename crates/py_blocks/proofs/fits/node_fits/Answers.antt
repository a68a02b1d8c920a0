use Rattle.std.proofs.Common.{length, arith}
use Rattle.py_base.specs.TreeLaws.{AreOlder-later}
use Rattle.py_blocks.proofs.fits.node_fits.Goals as goal

pub alternatives_fit-requires-clause-within : goal.alternatives_fit-requires-clause-within
alternatives_fit-requires-clause-within c =
    rw c.as_slice.ensures (AreOlder-later c.args.id.0 (length c.args.tree.now.nodes) c.node_of-node.result.now.parts (omega (arith, c.requires.within)) c.node_of-node.ensures.older)

pub pattern_fits-requires-clause-within : goal.pattern_fits-requires-clause-within
pattern_fits-requires-clause-within c =
    rw c.as_slice-then-is_case.ensures (AreOlder-later c.args.id.0 (length c.args.tree.now.nodes) c.node_of-node.result.now.parts (omega (arith, c.requires.within)) c.node_of-node.ensures.older)
