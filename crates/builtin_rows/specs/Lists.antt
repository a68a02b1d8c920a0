-- The finite lists of what the builtins bring along: the atoms in the types of names, of names of modules and of fixed results, how many
-- rows there are, and which of them are functions and which methods.
use Rattle.std.specs.Prelude.{ℕ, Bool, false, Option, Some, None, List, [], length, slice_get}
use Rattle.std.specs.List.{flat_map}
use Rattle.py_base.specs.LanguageNames.{builtin_names}
use Rattle.py_base.specs.declared.ids.ClassId.{ClassId}
use Rattle.type_terms.specs.declared.atom.Atom.{Atom}
use Rattle.type_terms.specs.declared.rows.RowResult.{RowResult}
use Rattle.type_terms.specs.declared.rows.RowResult.TheVariants as form
use Rattle.builtin_rows.specs.Rows.{builtin_type, entry_type, is_function, is_method_of, result_of, row_number}
use Rattle.builtin_rows.specs.Table.{RowLine, rows, entries}
use Rattle.builtin_rows.specs.declared.table.Owner.{Owner}

unfoldable pub row_count : ℕ
row_count = length rows

-- the atoms in the types of the names that every module sees
unfoldable pub name_atoms : List Atom
name_atoms = flat_map (λ text. builtin_type text (row_number is_function text)) builtin_names

-- the atoms in the types of the names of modules
unfoldable pub module_atoms : List Atom
module_atoms = flat_map entry_type entries

-- the atoms in the types that rows give whatever the arguments
abbrev pub fixed_atoms : RowResult → List Atom
fixed_atoms (form.Fixed type) = type
fixed_atoms _ = []

unfoldable pub result_atoms : List Atom
result_atoms = flat_map (λ line. fixed_atoms (result_of line.gives)) rows

-- whether the row of this number is one of such an owner
abbrev pub is_owned : (Owner → Bool) → Option RowLine → Bool
is_owned owns None = false
is_owned owns (Some line) = owns line.owner

unfoldable pub is_function_row : ℕ → Bool
is_function_row n = is_owned is_function (slice_get rows n)

-- whether the row of this number is a method of the class itself
unfoldable pub is_method_row : ClassId → ℕ → Bool
is_method_row c n = is_owned (is_method_of c) (slice_get rows n)
