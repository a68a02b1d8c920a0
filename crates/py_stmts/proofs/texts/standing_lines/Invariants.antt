use Rattle.std.proofs.Common.{drop}
use Rattle.py_stmts.specs.Module.{IsStanding}
use Rattle.py_stmts.proofs.ReadLines.{AreRead}
use Rattle.py_stmts.proofs.texts.standing_lines.Given as goal

abbrev pub invariant-loop-standing : goal.invariant-loop-standing
invariant-loop-standing l = AreRead (IsStanding l.lines) l.tree l.nesting (drop l.standing-index l.nesting) l.rows
