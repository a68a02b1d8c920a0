-- The constants of the code are the table, and the names of the language.
use Rattle.std.proofs.Common.{◌≡◌, map, refl}
use Rattle.py_base.specs.LanguageNames.{language_names, builtin_names}
use Rattle.py_base.specs.declared.language_names.TheConstants.{LANGUAGE_NAMES, BUILTIN_NAMES}
use Rattle.builtin_rows.specs.declared.table.TheConstants.{ROWS, ENTRIES}
use Rattle.builtin_rows.specs.Table.{row, entry, rows, entries}

pub rows_are_listed : map (λ line. row line.0 line.1.now line.2 line.3) ROWS ≡ rows
unfolding rows
rows_are_listed = refl

pub entries_are_listed : map (λ line. entry line.0.now line.1.now line.2) ENTRIES ≡ entries
unfolding entries
entries_are_listed = refl

pub names_are_listed : map (λ n. n.now) LANGUAGE_NAMES ≡ language_names
unfolding language_names
names_are_listed = refl

pub builtins_are_listed : map (λ n. n.now) BUILTIN_NAMES ≡ builtin_names
unfolding builtin_names
builtins_are_listed = refl
