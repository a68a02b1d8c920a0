-- The lists that the code makes of its constants are those of the table.
use Rattle.std.proofs.Common.{◌≡◌, map, ap}
use Rattle.py_base.specs.LanguageNames.{language_names}
use Rattle.py_base.specs.declared.language_names.TheConstants.{LANGUAGE_NAMES}
use Rattle.builtin_rows.specs.declared.table.TheConstants.{ROWS}
use Rattle.builtin_rows.specs.Held.{held_from, members_of}
use Rattle.builtin_rows.specs.Rows.{builtin_named, row_of}
use Rattle.builtin_rows.specs.Table.{row, rows, entries}
use Rattle.builtin_rows.proofs.Listed.{names_are_listed, rows_are_listed}

pub types_listed : map builtin_named (map (λ n. n.now) LANGUAGE_NAMES) ≡ map builtin_named language_names
types_listed = ap (map builtin_named) names_are_listed

pub held_listed : map (λ text. held_from text 0 rows) (map (λ n. n.now) LANGUAGE_NAMES) ≡ map (λ text. held_from text 0 rows) language_names
held_listed = ap (map (λ text. held_from text 0 rows)) names_are_listed

pub members_listed : map (λ text. members_of text entries) (map (λ n. n.now) LANGUAGE_NAMES) ≡ map (λ text. members_of text entries) language_names
members_listed = ap (map (λ text. members_of text entries)) names_are_listed

pub rows_listed : map row_of (map (λ line. row line.0 line.1.now line.2 line.3) ROWS) ≡ map row_of rows
rows_listed = ap (map row_of) rows_are_listed
