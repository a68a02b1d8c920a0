use Rattle.std.proofs.Common.{◌≡◌, ◌++◌, drop, map}
use Rattle.builtin_rows.specs.Lines.{row_in}
use Rattle.builtin_rows.specs.Held.{held_from}
use Rattle.builtin_rows.proofs.held.rows_named.Given as goal

abbrev pub invariant-loop-number : goal.invariant-loop-number
invariant-loop-number l = l.held ++ held_from l.text l.number (map row_in (drop l.number l.lines)) ≡ held_from l.text 0 (map row_in l.lines)
