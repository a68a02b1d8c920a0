use Rattle.std.proofs.Common.{◌≡◌, ◌++◌, drop}
use Rattle.py_stmts.specs.Rows.{lines_with_trees}
use Rattle.py_stmts.proofs.texts.module_lines.Given as goal

abbrev pub invariant-loop-line : goal.invariant-loop-line
invariant-loop-line l = l.found ++ lines_with_trees (drop l.line-index l.lines) ≡ lines_with_trees l.lines
