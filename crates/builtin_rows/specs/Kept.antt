-- What the table of the builtins keeps: for each name of the language, by its number, its type, its rows and the modules that have it, and
-- what stands in each row.
use Rattle.std.specs.Prelude.{◌≡◌, Option, Some, None, List, map}
use Rattle.py_base.specs.LanguageNames.{language_names}
use Rattle.type_terms.specs.declared.atom.Atom.{Atom}
use Rattle.type_terms.specs.declared.rows.Row.{Row}
use Rattle.builtin_rows.specs.declared.held.Held.{Held}
use Rattle.builtin_rows.specs.declared.held.Member.{Member}
use Rattle.builtin_rows.specs.Held.{held_from, members_of}
use Rattle.builtin_rows.specs.Rows.{builtin_named, row_of, no_row}
use Rattle.builtin_rows.specs.Table.{rows, entries}

pub record AreKept (types : List (Option (List Atom))) (held : List (List Held)) (members : List (List Member)) (lines : List Row) (other : Row) : Type 0 where
  pub types_are : types ≡ map builtin_named language_names
  pub held_are : held ≡ map (λ text. held_from text 0 rows) language_names
  pub members_are : members ≡ map (λ text. members_of text entries) language_names
  pub rows_are : lines ≡ map row_of rows
  pub other_is : other ≡ no_row

-- what is there, where something is
abbrev pub flat : {X : Type 0} → Option (Option X) → Option X
flat None = None
flat (Some found) = found
