-- The methods that an operation asks an instance for: `__call__`, `__iter__`, `__next__`, `__getitem__`, `__enter__`, and those of operators (Python language
-- reference, 3.3, special method names). Each member of the name's type that is a def or a builtin method is called, without arguments that count; each other one gives
-- Unknown without a fault, and isn't called in its turn.
use Rattle.std.specs.Prelude.{Bool, None, Option, Some, is_some, ℕ, ◌||◌}
use Rattle.py_base.specs.declared.ids.ClassId.{ClassId}
use Rattle.py_base.specs.declared.ids.NameId.{NameId}
use Rattle.py_base.specs.declared.ids.SymId.{SymId}
use Rattle.type_terms.specs.declared.atom.Atom.{Atom, out-Atom}
use Rattle.type_terms.specs.declared.atom.Atom.TheOpen.{Atom-F}
use Rattle.type_terms.specs.declared.rows.RowResult.{RowResult}
use Rattle.value_terms.specs.Term.{each, fixed, join, member, never}
use Rattle.op_rules.specs.Bindings.{call_of, through_instance}
use Rattle.op_rules.specs.Classes.{builtin_row, has_any, has_member, instance_class, on_instance}
use Rattle.op_rules.specs.Members.{by_members, members_seen}
use Rattle.op_rules.specs.Names.{enter-name}
use Rattle.op_rules.specs.Slots.{slot}
use Rattle.op_rules.specs.World.{Value, World, first_of, or_unknown, unknown, when}
use Rattle.op_rules.specs.declared.members.Seen.{Seen}
use Rattle.type_terms.specs.declared.atom.Atom.TheVariants as atom
use Rattle.type_terms.specs.declared.rows.RowResult.TheVariants as form

-- what a builtin method gives without arguments. Only calls make sites, so one that would make one gives Unknown

abbrev pub bare_gives : World → RowResult → Atom → Value
bare_gives w (form.Fixed type) receiver = fixed type
bare_gives w form.Nothing receiver = never
bare_gives w form.Receiver receiver = member receiver
bare_gives w (form.Slot place) receiver = slot w receiver place
bare_gives w (form.SlotOrNone place) receiver = join (slot w receiver place) (member atom.None)
bare_gives w (form.SlotOrArgument place) receiver = slot w receiver place
bare_gives w _ receiver = unknown

unfoldable pub row_called : World → ℕ → Atom → Value
row_called w row receiver = bare_gives w (w.builtins.row row).result receiver

abbrev pub level_called_once : World → Atom-F Atom → Value
level_called_once w (Atom-F.Func func) = call_of w func
level_called_once w (Atom-F.Bound func) = call_of w func
level_called_once w (Atom-F.BuiltMethod row receiver) = row_called w row receiver
level_called_once w _ = unknown

unfoldable pub called_once : World → Atom → Value
called_once w a = level_called_once w (out-Atom a)

-- what the method of a symbol gives
abbrev pub by_symbol : World → SymId → Value
by_symbol w sym = each (through_instance w sym) (called_once w)

abbrev pub by_row : World → Atom → Option ℕ → Option Value
by_row w a (Some row) = Some (row_called w row a)
by_row w a None = None

-- behind members that hide nothing stand the row, and else `__getattr__` or an Unknown base
abbrev pub behind_method : World → ClassId → Option Value → Option Value
behind_method w class row = first_of row (when (has_any w class) unknown)

abbrev pub method_with : World → ClassId → Seen → Option Value → Option Value
method_with w class seen row = by_members (by_symbol w) seen (behind_method w class row) row

abbrev pub own_of : World → NameId → Atom → Option ClassId → Option Value
own_of w name a (Some class) = method_with w class (members_seen w class name) (by_row w a (builtin_row w class name))
own_of w name a None = None

-- a member symbol or a row of the class has it
unfoldable pub own_method : World → NameId → Atom → Option Value
own_method w name a = own_of w name a (instance_class a)

-- `__getattr__` or an Unknown base stands for it
abbrev pub has_any_method : World → Atom → Bool
has_any_method w a = on_instance (has_any w) (instance_class a)

-- by the method that an instance has of its own; else by the rows of its builtin class; else Unknown where
-- `__getattr__` or an Unknown base stands for it
abbrev pub behind_own : World → Atom → Option Value → Option Value
behind_own w a rows = first_of rows (when (has_any_method w a) unknown)

unfoldable pub by_method : World → NameId → Atom → Option Value → Option Value
by_method w name a rows = first_of (own_method w name a) (behind_own w a rows)

-- `with`: what `__enter__` gives; a missing one is Unknown, that of None nothing, without a fault
abbrev pub level_entered : World → Atom → Atom-F Atom → Value
level_entered w a Atom-F.None = never
level_entered w a _ = or_unknown (by_method w enter-name a None)

unfoldable pub entered : World → Atom → Value
entered w a = level_entered w a (out-Atom a)

-- a member of an instance's class, a builtin row, `__getattr__` or an Unknown base has the name
abbrev pub class_has : World → NameId → ClassId → Bool
class_has w name class = has_member w class name || is_some (builtin_row w class name) || has_any w class

unfoldable pub has_method : World → NameId → Atom → Bool
has_method w name a = on_instance (class_has w name) (instance_class a)
