-- What the rows of the builtins mean: the type of each builtin name and of each name of a module, the number of the row of a method
-- and of a call of a class, and what stands in a row. A name is met by its number, and its text decides.
-- From: the Python 3.12 library reference ("Built-in Functions", "Built-in Constants", "Built-in Types", "Built-in Exceptions").
use Rattle.std.specs.Prelude.{ℕ, Bool, true, false, Option, Some, None, option_map, List, [], ◌∷◌, map, codes, find, slice_get, bytes_eq, unwrap_or, if◌then◌else◌, ◌==◌, ◌&&◌, ◌||◌, nat_lt}
use Rattle.std.specs.List.{list_any, position_from}
use Rattle.py_base.specs.Builtins.{id_of, builtin_count}
use Rattle.py_base.specs.LanguageNames.{language_names, builtin_names}
use Rattle.py_base.specs.declared.builtin.Builtin.TheVariants as class
use Rattle.py_base.specs.declared.ids.ClassId.{ClassId}
use Rattle.type_terms.specs.Rows.{RowTable}
use Rattle.type_terms.specs.Types.{both_bools}
use Rattle.type_terms.specs.declared.atom.Atom.{Atom}
use Rattle.type_terms.specs.declared.atom.Atom.TheVariants as atom
use Rattle.type_terms.specs.declared.atom.Slots.TheVariants.{Each}
use Rattle.type_terms.specs.declared.rows.Row.{Row}
use Rattle.type_terms.specs.declared.rows.RowResult.{RowResult}
use Rattle.type_terms.specs.declared.rows.RowResult.TheVariants as form
use Rattle.builtin_rows.specs.Table.{RowLine, ModuleLine, rows, entries}
use Rattle.builtin_rows.specs.declared.table.Owner.{Owner}
use Rattle.builtin_rows.specs.declared.table.Owner.TheVariants as owner
use Rattle.builtin_rows.specs.declared.table.Takes.{Takes}
use Rattle.builtin_rows.specs.declared.table.Takes.TheVariants as takes
use Rattle.builtin_rows.specs.declared.table.Gives.{Gives}
use Rattle.builtin_rows.specs.declared.table.Gives.TheVariants as gives
use Rattle.builtin_rows.specs.declared.table.Meaning.{Meaning}
use Rattle.builtin_rows.specs.declared.table.Meaning.TheVariants as meaning

-- how many plain arguments a row takes at least and at most, and whether it is called
abbrev pub least : Takes → ℕ
least takes.Any = 0
least (takes.Just n) = n
least (takes.Between a b) = a
least (takes.AtLeast a) = a
least takes.Uncalled = 0

abbrev pub most : Takes → Option ℕ
most takes.Any = None
most (takes.Just n) = Some n
most (takes.Between a b) = Some b
most (takes.AtLeast a) = None
most takes.Uncalled = None

abbrev pub called : Takes → Bool
called takes.Uncalled = false
called _ = true

abbrev pub str_type : List Atom
str_type = atom.Inst (id_of class.Str) ∷ []

abbrev pub list_of_str : List Atom
list_of_str = atom.Gen (id_of class.List) (Each (str_type ∷ [])) ∷ []

abbrev pub three_strs : List Atom
three_strs = atom.Gen (id_of class.Tuple) (Each (str_type ∷ str_type ∷ str_type ∷ [])) ∷ []

-- what a row gives, in the words of the rules
abbrev pub result_of : Gives → RowResult
result_of (gives.Instance c) = form.Fixed (atom.Inst (id_of c) ∷ [])
result_of gives.Bools = form.Fixed both_bools
result_of gives.NoneValue = form.Fixed (atom.None ∷ [])
result_of gives.Unsure = form.Fixed (atom.Unknown ∷ [])
result_of gives.ListOfStr = form.Fixed list_of_str
result_of gives.ThreeStrs = form.Fixed three_strs
result_of gives.Nothing = form.Nothing
result_of gives.Magnitude = form.Magnitude
result_of gives.Extreme = form.Extreme
result_of gives.Sum = form.Sum
result_of gives.Rounded = form.Rounded
result_of (gives.Iterated c n) = form.Iterated (id_of c) n
result_of gives.Mapped = form.Mapped
result_of gives.Numbered = form.Numbered
result_of gives.Zipped = form.Zipped
result_of gives.FirstArgument = form.FirstArgument
result_of gives.SuperAround = form.SuperAround
result_of (gives.Unfilled c) = form.Unfilled (id_of c)
result_of gives.ClassOfEach = form.ClassOfEach
result_of gives.EnumMembers = form.EnumMembers
result_of gives.Receiver = form.Receiver
result_of (gives.Slot n) = form.Slot n
result_of (gives.SlotOrNone n) = form.SlotOrNone n
result_of (gives.SlotOrArgument n) = form.SlotOrArgument n
result_of (gives.IterableOfSlot n) = form.IterableOfSlot n
result_of gives.IterableOfEntries = form.IterableOfEntries

abbrev pub row_of : RowLine → Row
row_of line = record { least = least line.takes; most = most line.takes; called = called line.takes; result = result_of line.gives }

-- a number that no row has
abbrev pub no_row : Row
no_row = record { least = 0; most = None; called = true; result = form.Nothing }

unfoldable pub row_at : ℕ → Row
row_at n = unwrap_or (slice_get (map row_of rows) n) no_row

-- the name of a row, and nothing for a number that no row has
unfoldable pub row_word : ℕ → List ℕ
row_word n = unwrap_or (option_map (λ line. line.name) (slice_get rows n)) []

abbrev pub is_function : Owner → Bool
is_function owner.Function = true
is_function _ = false

abbrev pub is_call : Owner → Bool
is_call owner.Call = true
is_call _ = false

abbrev pub is_method_of : ClassId → Owner → Bool
is_method_of c (owner.Method b) = (id_of b).0 == c.0
is_method_of c _ = false

-- THE NUMBER OF A ROW: the place of the row of that name whose owner is meant
abbrev pub row_number : (Owner → Bool) → List ℕ → Option ℕ
row_number is_owner text = position_from (λ line. bytes_eq text line.name && is_owner line.owner) 0 rows

-- what a name's text has, by the number of the name
abbrev pub by_text : {X : Type 0} → (List ℕ → Option X) → Option (List ℕ) → Option X
by_text f None = None
by_text f (Some text) = f text

-- the place of a name among the names of the language, and so its number
abbrev pub name_place : List ℕ → Option ℕ
name_place text = position_from (bytes_eq text) 0 language_names

abbrev pub name_number : List ℕ → ℕ
name_number text = unwrap_or (name_place text) 0

-- whether a name is that of a builtin class: these have the first numbers
abbrev pub is_class_place : Option ℕ → Bool
is_class_place None = false
is_class_place (Some place) = nat_lt place builtin_count

abbrev pub is_class_name : List ℕ → Bool
is_class_name text = is_class_place (name_place text)

abbrev pub class_type : List ℕ → List Atom
class_type text = atom.Class (record { 0 = name_number text }) ∷ []

-- `__doc__`, `__file__` and `__name__`, which are texts
abbrev pub is_text_name : List ℕ → Bool
is_text_name text = bytes_eq text (codes "__doc__") || bytes_eq text (codes "__file__") || bytes_eq text (codes "__name__")

-- the type of a name that every module sees: a function, a class, a text, and else Unknown
abbrev pub builtin_type : List ℕ → Option ℕ → List Atom
builtin_type text (Some number) = atom.BuiltFunc number ∷ []
builtin_type text None = if is_class_name text then class_type text else (if is_text_name text then str_type else atom.Unknown ∷ [])

unfoldable pub builtin_named : List ℕ → Option (List Atom)
builtin_named text = if list_any (bytes_eq text) builtin_names then Some (builtin_type text (row_number is_function text)) else None

-- the type of a name of a module
abbrev pub meaning_type : List ℕ → Meaning → List Atom
meaning_type text meaning.Class = class_type text
meaning_type text meaning.ClassObject = atom.Class (id_of class.Object) ∷ []
meaning_type text meaning.BuiltinFunction = builtin_type text (row_number is_function text)
meaning_type text meaning.Special = atom.Special (record { 0 = name_number text }) ∷ []
meaning_type text meaning.Strs = list_of_str
meaning_type text meaning.NotKnown = atom.Unknown ∷ []

abbrev pub entry_type : ModuleLine → List Atom
entry_type line = meaning_type line.name line.meaning

unfoldable pub module_named : ℕ → List ℕ → Option (List Atom)
module_named owner text = option_map entry_type (find (λ line. bytes_eq text line.name && (name_number line.owner == owner)) entries)

-- THE TABLE OF THE BUILTINS, as its calls answer
abbrev pub builtin_table : RowTable
builtin_table = record {
  name = λ n. by_text builtin_named (slice_get language_names n.0);
  method = λ c n. by_text (row_number (is_method_of c)) (slice_get language_names n.0);
  module_name = λ m n. by_text (module_named m.0) (slice_get language_names n.0);
  class_call = λ c. if nat_lt c.0 builtin_count then by_text (row_number is_call) (slice_get language_names c.0) else None;
  row = row_at;
}
