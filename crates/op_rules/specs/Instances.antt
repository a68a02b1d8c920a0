-- The instances of a class: bool is both its literals and an enum its members; a generic class has Unknown in each slot (Python typing specification,
-- "Enumerations" and "Generics").
use Rattle.std.specs.Prelude.{Bool, List, None, Option, Some, [], if◌then◌else◌, ℕ, ◌||◌, ◌∷◌}
use Rattle.py_base.specs.Builtins.{id_of}
use Rattle.py_base.specs.declared.builtin.Builtin.{Builtin}
use Rattle.py_base.specs.declared.ids.ClassId.{ClassId}
use Rattle.py_base.specs.declared.ids.NameId.{NameId}
use Rattle.type_terms.specs.Types.{both_bools}
use Rattle.type_terms.specs.Widen.{all_members}
use Rattle.type_terms.specs.declared.atom.Atom.{Atom, out-Atom}
use Rattle.type_terms.specs.declared.atom.Atom.TheOpen.{Atom-F}
use Rattle.type_terms.specs.declared.atom.Slots.{Slots}
use Rattle.value_terms.specs.Term.{each, fixed, member}
use Rattle.op_rules.specs.Classes.{is_class, on_instance}
use Rattle.op_rules.specs.Slots.{entries, slot, slotted_class, tuple_length}
use Rattle.op_rules.specs.World.{Value, World, unknown, when}
use Rattle.type_terms.specs.declared.atom.Atom.TheVariants as atom
use Rattle.py_base.specs.declared.builtin.Builtin.TheVariants as builtin
use Rattle.type_terms.specs.declared.atom.Slots.TheVariants as slots

abbrev pub unknown_type : List Atom
unknown_type = atom.Unknown ∷ []

abbrev pub has_one_slot : ClassId → Bool
has_one_slot class =
    is_class class builtin.List || is_class class builtin.Set || is_class class builtin.Sequence || is_class class builtin.Iterable

-- the slots of a builtin generic class, each Unknown
abbrev pub unknown_slots : ClassId → Option (Slots (List Atom))
unknown_slots class =
    if has_one_slot class then Some (slots.Each (unknown_type ∷ []))
    else (if is_class class builtin.Dict then Some (slots.Each (unknown_type ∷ unknown_type ∷ []))
    else (if is_class class builtin.Tuple then Some (slots.Endless unknown_type)
    else when (is_class class builtin.Callable) (slots.AnyArguments unknown_type)))

abbrev pub generic_instance : ClassId → Option (Slots (List Atom)) → Atom
generic_instance class (Some all) = atom.Gen class all
generic_instance class None = atom.Inst class

-- the instance of NoneType is None
abbrev pub plain_instance : ClassId → Atom
plain_instance class = if is_class class builtin.NoneType then atom.None else generic_instance class (unknown_slots class)

-- an enum has its members
abbrev pub or_members : World → ClassId → List NameId → List Atom
or_members w class [] = plain_instance class ∷ []
or_members w class (first ∷ rest) = all_members w.names class

unfoldable pub instances : World → ClassId → List Atom
instances w class = if is_class class builtin.Bool then both_bools else or_members w class (w.names.enum_members class)

-- an instance of a builtin class without slots
abbrev pub instance : Builtin → Value
instance b = member (atom.Inst (id_of b))

-- `except .. as n`: the instance of a class, and of each class in a tuple; everything else is Unknown
abbrev pub level_caught_class : World → Atom-F Atom → Value
level_caught_class w (Atom-F.Class class) = fixed (instances w class)
level_caught_class w _ = unknown

abbrev pub caught_class : World → Atom → Value
caught_class w a = level_caught_class w (out-Atom a)

abbrev pub caught_in : World → Atom → Option ℕ → Value
caught_in w a (Some count) = each (entries w a count) (caught_class w)
caught_in w a None = each (slot w a 0) (caught_class w)

unfoldable pub caught : World → Atom → Value
caught w a = if on_instance (λ class. is_class class builtin.Tuple) (slotted_class a) then caught_in w a (tuple_length w a) else caught_class w a
