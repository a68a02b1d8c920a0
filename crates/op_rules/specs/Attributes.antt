-- What an attribute gives (Python language reference, 6.3.1, attribute references; Python typing specification, "Enumerations", on `name` and `value`).
use Rattle.std.specs.Prelude.{Bool, None, Option, Some, if◌then◌else◌, is_some, not, slice_get, ℕ, ◌&&◌, ◌==◌, ◌||◌}
use Rattle.class_rows.specs.Rows.{has_keyword_of, own_member_of}
use Rattle.py_base.specs.declared.ids.ClassId.{ClassId}
use Rattle.py_base.specs.declared.ids.NameId.{NameId}
use Rattle.py_base.specs.declared.ids.SymId.{SymId}
use Rattle.type_terms.specs.Order.{literal_class}
use Rattle.type_terms.specs.declared.atom.Atom.{Atom, out-Atom}
use Rattle.type_terms.specs.declared.atom.Atom.TheOpen.{Atom-F}
use Rattle.type_terms.specs.declared.literal.Literal.{Literal}
use Rattle.value_terms.specs.Outcome.{gives}
use Rattle.value_terms.specs.Term.{member, read}
use Rattle.op_rules.specs.Bindings.{through_class, through_instance}
use Rattle.op_rules.specs.Classes.{builtin_row, has_any, is_class, is_closed, is_enum, is_of_file, is_open, lacks_others}
use Rattle.op_rules.specs.Instances.{instance}
use Rattle.op_rules.specs.Members.{by_members, enum_member, members_behind, members_seen}
use Rattle.op_rules.specs.Names.{name-name, value-name}
use Rattle.op_rules.specs.Protocols.{row_called}
use Rattle.op_rules.specs.World.{Rule, Value, World, first_of, known, none_refused, or_else, or_refused, unknown, when}
use Rattle.value_terms.specs.declared.ask.Ask.TheVariants as ask
use Rattle.type_terms.specs.declared.atom.Atom.TheVariants as atom
use Rattle.py_base.specs.declared.builtin.Builtin.TheVariants as builtin
use Rattle.type_terms.specs.declared.literal.Literal.TheVariants as literal

-- a builtin row: its method, or without a call its result

abbrev pub row_attribute : World → Atom → ℕ → Value
row_attribute w a row = if (w.builtins.row row).called then member (atom.BuiltMethod row a) else row_called w row a

abbrev pub row_value : World → Atom → Option ℕ → Option Value
row_value w a (Some row) = Some (row_attribute w a row)
row_value w a None = None

-- on an instance of an enum without members
abbrev pub on_bare_enum : World → ClassId → NameId → Option Value
on_bare_enum w class name =
    if is_enum w class && is_of_file class then (if name.0 == name-name.0 then Some (instance builtin.Str) else when (name.0 == value-name.0) unknown) else None

-- a name that nothing gives: Unknown, or a fault
abbrev pub lacks : World → ClassId → Bool
lacks w class = if is_of_file class then lacks_others w class else is_closed class

abbrev pub missing : World → ClassId → NameId → Option Value
missing w class name = when (has_any w class || w.members.is_dunder name || not (lacks w class)) unknown

-- behind the member symbols: the builtin row, an enum's names, a name that nothing gives
unfoldable pub behind_symbols : World → Atom → NameId → ClassId → Option Value
behind_symbols w a name class =
    first_of (row_value w a (builtin_row w class name)) (first_of (on_bare_enum w class name) (missing w class name))

-- the member symbols of an instance, and this behind them
abbrev pub on_instance_with : World → NameId → ClassId → Option Value → Rule
on_instance_with w name class behind = or_refused (by_members (through_instance w) (members_seen w class name) behind behind)

-- instance: the member symbol's type, else the builtin row, else Unknown or a fault
unfoldable pub on_instance_of : World → Atom → NameId → ClassId → Rule
on_instance_of w a name class = on_instance_with w name class (behind_symbols w a name class)

-- enum member: `value` is the type of its symbol, `name` is str
abbrev pub symbol_value : Option SymId → Value
symbol_value (Some sym) = read (ask.Sym sym)
symbol_value None = unknown

abbrev pub value_of : World → ClassId → Option NameId → Value
value_of w class (Some own) = symbol_value (own_member_of w.classes class own)
value_of w class None = unknown

abbrev pub enum_value : World → NameId → ClassId → ℕ → Option Value
enum_value w name class place =
    if name.0 == name-name.0 then Some (instance builtin.Str)
    else when (name.0 == value-name.0) (value_of w class (slice_get (w.names.enum_members class) place))

unfoldable pub on_enum_member : World → Atom → NameId → ClassId → ℕ → Rule
on_enum_member w a name class place = on_instance_with w name class (first_of (enum_value w name class place) (behind_symbols w a name class))

abbrev pub on_literal : World → Atom → NameId → Literal → Rule
on_literal w a name (literal.Member class place) = on_enum_member w a name class place
on_literal w a name value = on_instance_of w a name (literal_class value)

-- class: an enum member as its literal, else the member symbol's type, in which a def stays; else Unknown, and a
-- fault where a class of the file lacks the name
abbrev pub literal_rule : Option Atom → Option Rule
literal_rule (Some a) = Some (gives (member a))
literal_rule None = None

abbrev pub class_lacks : World → ClassId → NameId → Bool
class_lacks w class name =
    is_of_file class && lacks_others w class && not (is_open w class) && not (has_keyword_of w.classes class)
    && not (w.members.is_dunder name) && not (is_some (builtin_row w class name))

abbrev pub missing_on_class : World → ClassId → NameId → Option Value
missing_on_class w class name = when (not (class_lacks w class name)) unknown

abbrev pub on_class_with : World → NameId → ClassId → Option Value → Rule
on_class_with w name class behind = or_refused (by_members (through_class w) (members_seen w class name) behind behind)

unfoldable pub on_class : World → NameId → ClassId → Rule
on_class w name class = or_else (literal_rule (enum_member w class name)) (on_class_with w name class (missing_on_class w class name))

-- `super()`: what stands behind the class in its order, seen through an instance
unfoldable pub on_super : World → NameId → ClassId → Rule
on_super w name class = or_refused (by_members (through_instance w) (members_behind w class name) (Some unknown) (Some unknown))

abbrev pub on_site : World → Atom → NameId → ClassId → Rule
on_site w a name class = if is_class class builtin.Function then gives unknown else on_instance_of w a name class

abbrev pub level_attribute : World → Atom → NameId → Atom-F Atom → Rule
level_attribute w a name (Atom-F.Lit value) = on_literal w a name value
level_attribute w a name (Atom-F.Inst class) = on_instance_of w a name class
level_attribute w a name (Atom-F.Gen class all) = on_instance_of w a name class
level_attribute w a name (Atom-F.Site site) = on_site w a name site.class
level_attribute w a name (Atom-F.Class class) = on_class w name class
level_attribute w a name (Atom-F.Super class) = on_super w name class
level_attribute w a name (Atom-F.Mod source) = gives (known (w.builtins.module_name source name))
level_attribute w a name Atom-F.None = none_refused
level_attribute w a name _ = gives unknown

-- the attribute of this name of a member
unfoldable pub attribute : World → Atom → NameId → Rule
attribute w a name = level_attribute w a name (out-Atom a)
