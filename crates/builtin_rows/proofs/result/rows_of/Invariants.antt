use Rattle.std.proofs.Common.{◌≡◌, map, take}
use Rattle.builtin_rows.specs.Lines.{row_in}
use Rattle.builtin_rows.specs.Rows.{row_of}
use Rattle.builtin_rows.proofs.result.rows_of.Given as goal

abbrev pub invariant-loop-line : goal.invariant-loop-line
invariant-loop-line l = l.rows ≡ map row_of (map row_in (take l.line-index l.lines))
