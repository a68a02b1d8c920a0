use Rattle.std.proofs.Common.{◌≡◌, ◌&&◌, drop, map}
use Rattle.std.specs.Prelude.{bytes_eq}
use Rattle.std.specs.List.{position_from}
use Rattle.builtin_rows.specs.Lines.{row_in}
use Rattle.builtin_rows.specs.Rows.{is_function}
use Rattle.builtin_rows.proofs.types.place_of_function.Given as goal

abbrev pub invariant-loop-place : goal.invariant-loop-place
invariant-loop-place l = position_from (λ line. bytes_eq l.text line.name && is_function line.owner) l.place (map row_in (drop l.place l.lines)) ≡ position_from (λ line. bytes_eq l.text line.name && is_function line.owner) 0 (map row_in l.lines)
