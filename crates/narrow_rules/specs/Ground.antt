-- The classes of members, the instances of a class as members, and which members are under others.
-- From: the Python typing specification, "Enumerations" (an enum is the set of its members, and bool that of both its literals), "Generics"
-- (a generic class without arguments has `Any` in each slot) and "Type narrowing".
use Rattle.std.specs.Prelude.{◌==◌, ◌||◌, ℕ, Bool, true, false, List, [], ◌∷◌, Option, Some, None, is_some, unwrap_or, bytes_eq, if◌then◌else◌}
use Rattle.std.specs.List.{position_from}
use Rattle.std.specs.Ordering.{eq_by_cmp}
use Rattle.py_base.specs.declared.ids.ClassId.{ClassId}
use Rattle.py_base.specs.declared.ids.NameId.{NameId}
use Rattle.py_base.specs.Builtins.{id_of}
use Rattle.py_base.specs.declared.builtin.Builtin.{Builtin}
use Rattle.py_base.specs.declared.builtin.Builtin.TheVariants as builtin
use Rattle.py_base.specs.LanguageNames.{language_names}
use Rattle.type_terms.specs.declared.atom.Atom.{Atom, out-Atom}
use Rattle.type_terms.specs.declared.atom.Atom.TheVariants as atom
use Rattle.type_terms.specs.declared.atom.Atom.TheOpen.{Atom-F}
use Rattle.type_terms.specs.declared.atom.Slots.{Slots}
use Rattle.type_terms.specs.declared.atom.Slots.TheVariants.{Each, Endless, AnyArguments}
use Rattle.type_terms.specs.Facts.{NameTable}
use Rattle.type_terms.specs.Order.{atom_cmp, literal_class}
use Rattle.type_terms.specs.Types.{both_bools}
use Rattle.type_terms.specs.Widen.{all_members}
use Rattle.class_rows.specs.Rows.{ClassRow, is_sub_of, member_of}

abbrev pub is_class : ClassId → Builtin → Bool
is_class class builtin = class.0 == (id_of builtin).0

-- the class is this builtin class or stands below it
abbrev pub is_below : List ClassRow → ClassId → Builtin → Bool
is_below classes class builtin = is_sub_of classes class (id_of builtin)

-- the name of the language with this text
abbrev pub named : List ℕ → NameId
named text = record { 0 = unwrap_or (position_from (bytes_eq text) 0 language_names) 0 }

-- a class of the order has the name among its own members
unfoldable pub has_name : List ClassRow → ClassId → List ℕ → Bool
has_name classes class text = is_some (member_of classes class (named text))

-- THE CLASS OF A MEMBER; Unknown has none
abbrev pub level_class : Atom-F Atom → Option ClassId
level_class (Atom-F.Lit value) = Some (literal_class value)
level_class (Atom-F.Inst class) = Some class
level_class (Atom-F.Gen class slots) = Some class
level_class (Atom-F.Site site) = Some site.class
level_class (Atom-F.Class class) = Some (id_of builtin.Type)
level_class (Atom-F.Func func) = Some (id_of builtin.Function)
level_class (Atom-F.Bound func) = Some (id_of builtin.Function)
level_class (Atom-F.BuiltMethod row receiver) = Some (id_of builtin.Function)
level_class (Atom-F.BuiltFunc row) = Some (id_of builtin.Function)
level_class (Atom-F.Super class) = Some (id_of builtin.Object)
level_class (Atom-F.Mod name) = Some (id_of builtin.Object)
level_class (Atom-F.Special name) = Some (id_of builtin.Object)
level_class Atom-F.None = Some (id_of builtin.NoneType)
level_class Atom-F.Unknown = None
level_class Atom-F.Unbound = None
level_class Atom-F.Open = None
level_class Atom-F.Here = None

unfoldable pub class_of : Atom → Option ClassId
class_of a = level_class (out-Atom a)

-- THE INSTANCES OF A CLASS: bool and enums as the sets of their members, generics with Unknown slots
abbrev pub unknown : List Atom
unknown = atom.Unknown ∷ []

abbrev pub unknown_each : Bool → Slots (List Atom)
unknown_each true = Each (unknown ∷ unknown ∷ [])
unknown_each false = Each (unknown ∷ [])

abbrev pub has_one_slot : ClassId → Bool
has_one_slot class = is_class class builtin.List || is_class class builtin.Set || is_class class builtin.Sequence || is_class class builtin.Iterable

abbrev pub unknown_slots : ClassId → Option (Slots (List Atom))
unknown_slots class =
    if is_class class builtin.Dict then Some (unknown_each true)
    else if is_class class builtin.Tuple then Some (Endless unknown)
    else if is_class class builtin.Callable then Some (AnyArguments unknown)
    else if has_one_slot class then Some (unknown_each false)
    else None

abbrev pub instance_by : ClassId → Option (Slots (List Atom)) → Atom
instance_by class (Some slots) = atom.Gen class slots
instance_by class None = if is_class class builtin.NoneType then atom.None else atom.Inst class

-- the members of bool and of an enum; none of another class
abbrev pub set_members : NameTable → ClassId → List Atom
set_members names class = if is_class class builtin.Bool then both_bools else all_members names class

abbrev pub has_some : {X : Type 0} → List X → Bool
has_some [] = false
has_some (x ∷ xs) = true

abbrev pub is_set : NameTable → ClassId → Bool
is_set names class = is_class class builtin.Bool || has_some (all_members names class)

abbrev pub or_one : List Atom → Atom → List Atom
or_one [] a = a ∷ []
or_one members a = members

unfoldable pub instances : NameTable → ClassId → List Atom
instances names class = or_one (set_members names class) (instance_by class (unknown_slots class))

-- one atom
abbrev pub same : Atom → Atom → Bool
same = eq_by_cmp atom_cmp

-- WHAT IS UNDER A MEMBER OF A WRITTEN TYPE: an equal one, and but for a literal those whose class is its class or below it, classes under `type[C]`
-- by the classes that they are
abbrev pub is_class_under : List ClassRow → ClassId → Atom-F Atom → Bool
is_class_under classes high (Atom-F.Class low) = is_sub_of classes low high
is_class_under classes high other = false

abbrev pub are_under : List ClassRow → Option ClassId → Option ClassId → Bool
are_under classes (Some low) (Some high) = is_sub_of classes low high
are_under classes _ _ = false

abbrev pub level_under : List ClassRow → Atom → Atom → Atom-F Atom → Bool
level_under classes one other (Atom-F.Lit value) = false
level_under classes one other (Atom-F.Class high) = is_class_under classes high (out-Atom one)
level_under classes one other _ = are_under classes (class_of one) (class_of other)

unfoldable pub is_under : List ClassRow → Atom → Atom → Bool
is_under classes one other = same one other || level_under classes one other (out-Atom other)
