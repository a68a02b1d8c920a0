-- The name of a line of the code's constant is that of the row.
use Rattle.std.proofs.Common.{◌≡◌, ℕ, ap, List, [], map}
use Rattle.std.specs.Prelude.{option_map, slice_get, unwrap_or}
use Rattle.builtin_rows.specs.declared.table.TheConstants.{ROWS}
use Rattle.builtin_rows.specs.Rows.{row_word}
use Rattle.builtin_rows.specs.Table.{RowLine, row}
use Rattle.builtin_rows.proofs.Listed.{rows_are_listed}

pub word_is : (n : ℕ) → unwrap_or (option_map (λ line. line.name) (slice_get (map (λ line. row line.0 line.1.now line.2 line.3) ROWS) n)) [] ≡ row_word n
unfolding row_word
word_is n = ap (λ (lines : List RowLine). unwrap_or (option_map (λ line. line.name) (slice_get lines n)) []) rows_are_listed
