-- The lines of the code's constants, as the lines of the table.
use Rattle.std.specs.Prelude.{ℕ, List}
use denote.Ref.{Bor}
use Rattle.builtin_rows.specs.declared.table.Owner.{Owner}
use Rattle.builtin_rows.specs.declared.table.Takes.{Takes}
use Rattle.builtin_rows.specs.declared.table.Gives.{Gives}
use Rattle.builtin_rows.specs.declared.table.Meaning.{Meaning}
use Rattle.builtin_rows.specs.Table.{RowLine, ModuleLine, row, entry}

abbrev pub row_in : Owner × Bor (List ℕ) × Takes × Gives → RowLine
row_in line = row line.0 line.1.now line.2 line.3

abbrev pub entry_in : Bor (List ℕ) × Bor (List ℕ) × Meaning → ModuleLine
entry_in line = entry line.0.now line.1.now line.2
