use Rattle.py_blocks.proofs.Going.{IsPassing}
use Rattle.py_blocks.proofs.settle.settled_lines.Given as goal

abbrev pub invariant-loop-at : goal.invariant-loop-at
invariant-loop-at l = IsPassing l.lines l.at l.standing.items l.notes.items l.stages.items l.taken
