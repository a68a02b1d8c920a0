-- The classes of members, and what the rules ask of a class (Python language reference, 3.1, objects, values and types; 3.3.3, class creation).
use Rattle.std.specs.List.{list_any}
use Rattle.std.specs.Prelude.{Bool, List, None, Option, Some, [], false, if◌then◌else◌, is_some, nat_lt, not, ℕ, ◌&&◌, ◌==◌, ◌||◌, ◌∷◌}
use Rattle.class_rows.specs.Rows.{is_open_of, is_sub_of, member_of, order_of}
use Rattle.py_base.specs.Builtins.{builtin_count, id_of}
use Rattle.py_base.specs.declared.builtin.Builtin.{Builtin}
use Rattle.py_base.specs.declared.ids.ClassId.{ClassId}
use Rattle.py_base.specs.declared.ids.NameId.{NameId}
use Rattle.type_terms.specs.Order.{literal_class}
use Rattle.type_terms.specs.declared.atom.Atom.{Atom, out-Atom}
use Rattle.type_terms.specs.declared.atom.Atom.TheOpen.{Atom-F}
use Rattle.op_rules.specs.Names.{getattr-name, slots-name}
use Rattle.op_rules.specs.World.{World, first_of}
use Rattle.py_base.specs.declared.builtin.Builtin.TheVariants as builtin

-- low is the builtin class high or stands below it

abbrev pub is_under : World → ClassId → Builtin → Bool
is_under w low high = is_sub_of w.classes low (id_of high)

-- a class of the file: the builtin classes have the first numbers
abbrev pub is_of_file : ClassId → Bool
is_of_file class = not (nat_lt class.0 builtin_count)

abbrev pub is_class : ClassId → Builtin → Bool
is_class class builtin = class.0 == (id_of builtin).0

-- a class with an Unknown base in its order
abbrev pub is_open : World → ClassId → Bool
is_open w class = is_open_of w.classes class

-- an enum class, whose members its names have
abbrev pub is_enum : World → ClassId → Bool
is_enum w class = is_under w class builtin.Enum

-- a lambda is no instance of a class that has methods
abbrev pub site_instance : ClassId → Option ClassId
site_instance class = if is_class class builtin.Function then None else Some class

-- the class whose instance a member is
abbrev pub level_instance : Atom-F Atom → Option ClassId
level_instance (Atom-F.Lit value) = Some (literal_class value)
level_instance (Atom-F.Inst class) = Some class
level_instance (Atom-F.Gen class slots) = Some class
level_instance (Atom-F.Site site) = site_instance site.class
level_instance _ = None

unfoldable pub instance_class : Atom → Option ClassId
instance_class a = level_instance (out-Atom a)

-- a member is an instance of a class that has the property
abbrev pub on_instance : (ClassId → Bool) → Option ClassId → Bool
on_instance property (Some class) = property class
on_instance property None = false

abbrev pub is_instance_under : World → Atom → Builtin → Bool
is_instance_under w a high = on_instance (λ class. is_under w class high) (instance_class a)

-- the class of the file whose instance a member is
abbrev pub only_of_file : Option ClassId → Option ClassId
only_of_file (Some class) = if is_of_file class then Some class else None
only_of_file None = None

abbrev pub file_class : Atom → Option ClassId
file_class a = only_of_file (instance_class a)

-- the class of a member that is no such instance, as `type(x)` gives it
abbrev pub level_class : Atom-F Atom → Builtin
level_class (Atom-F.Class class) = builtin.Type
level_class (Atom-F.Func func) = builtin.Function
level_class (Atom-F.Bound func) = builtin.Function
level_class (Atom-F.BuiltMethod row receiver) = builtin.Function
level_class (Atom-F.BuiltFunc row) = builtin.Function
level_class (Atom-F.Site site) = builtin.Function
level_class Atom-F.None = builtin.NoneType
level_class _ = builtin.Object

abbrev pub class_or : Option ClassId → Builtin → ClassId
class_or (Some class) other = class
class_or None other = id_of other

unfoldable pub class_of : Atom → ClassId
class_of a = class_or (level_instance (out-Atom a)) (level_class (out-Atom a))

-- the row of the first builtin class of an order that has one for this name
abbrev pub row_in : World → List ClassId → NameId → Option ℕ
row_in w [] name = None
row_in w (c ∷ cs) name = first_of (w.builtins.method c name) (row_in w cs name)

abbrev pub builtin_row : World → ClassId → NameId → Option ℕ
builtin_row w class name = row_in w (order_of w.classes class) name

-- a class of the order has a member of this name
abbrev pub has_member : World → ClassId → NameId → Bool
has_member w class name = is_some (member_of w.classes class name)

-- the class has this name for every other: `__getattr__`, or a base that isn't known
abbrev pub has_any : World → ClassId → Bool
has_any w class = has_member w class getattr-name || is_open w class

-- int, bool, float, str, list, tuple, set and dict have just the names of their rows
abbrev pub is_closed : ClassId → Bool
is_closed class =
    is_class class builtin.Int || is_class class builtin.Bool || is_class class builtin.Float || is_class class builtin.Str
    || is_class class builtin.List || is_class class builtin.Tuple || is_class class builtin.Set || is_class class builtin.Dict

-- object and the classes that add no names to it
abbrev pub is_like_object : ClassId → Bool
is_like_object class = is_class class builtin.Object || is_class class builtin.Enum || is_class class builtin.IntEnum || is_class class builtin.StrEnum

-- a builtin class that may have names beside its rows
abbrev pub is_loose : ClassId → Bool
is_loose class = not (is_of_file class) && not (is_like_object class)

-- a class of the file lacks each name that nothing gives: a closed class stands in its order, or no builtin class but what is like object; and no
-- class of it has `__slots__`
abbrev pub lacks_others : World → ClassId → Bool
lacks_others w class =
    not (has_member w class slots-name) && (list_any is_closed (order_of w.classes class) || not (list_any is_loose (order_of w.classes class)))
