use Rattle.std.proofs.Common.{◌≡◌, ◌++◌, drop}
use Rattle.py_stmts.specs.Module.{line_faults}
use Rattle.py_stmts.proofs.texts.line_faults.Given as goal

abbrev pub invariant-loop-standing : goal.invariant-loop-standing
invariant-loop-standing l = l.faults ++ line_faults l.lines (drop l.standing-index l.nesting) ≡ line_faults l.lines l.nesting
