use Rattle.py_blocks.proofs.Undecorating.{AreTurned}
use Rattle.py_blocks.proofs.settle.undecorate.Given as goal

abbrev pub invariant-lines : goal.invariant-lines
invariant-lines l = AreTurned l.fn.standing.items l.standing.items l.at

abbrev pub decreases-lines : goal.decreases-lines
decreases-lines l = l.at
