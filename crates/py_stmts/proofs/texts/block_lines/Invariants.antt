use Rattle.std.proofs.Common.{drop}
use Rattle.py_stmts.specs.Module.{IsRowOf}
use Rattle.py_stmts.proofs.ReadLines.{AreRead}
use Rattle.py_stmts.proofs.texts.block_lines.Given as goal

abbrev pub invariant-loop-line : goal.invariant-loop-line
invariant-loop-line l = AreRead IsRowOf l.tree l.lines (drop l.line-index l.lines) l.rows
