-- The class of a member of a type, its slots, and what a call gives: what acceptance looks at (Python typing specification, "Type system concepts"; language
-- reference, data model, "The standard type hierarchy").
use Rattle.std.specs.Prelude.{◌==◌, if◌then◌else◌, nat_lt, Bool, true, false, not, List, [], ◌∷◌, map, Option, Some, None}
use Rattle.std.specs.List.{range_with_len}
use Rattle.py_base.specs.Builtins.{id_of, builtin_count}
use Rattle.py_base.specs.declared.builtin.Builtin.TheVariants as builtin
use Rattle.py_base.specs.declared.ids.ClassId.{ClassId}
use Rattle.py_base.specs.declared.ids.FuncId.{FuncId}
use Rattle.py_base.specs.declared.ids.SiteId.{SiteId}
use Rattle.py_base.specs.declared.key.Key.{Key}
use Rattle.py_base.specs.declared.key.Key.TheVariants.{Elem, Ret}
use Rattle.class_rows.specs.Rows.{ClassRow}
use Rattle.type_terms.specs.declared.atom.Slots.{Slots}
use Rattle.type_terms.specs.declared.atom.Slots.TheVariants.{Each, Endless}
use Rattle.type_terms.specs.declared.atom.Atom.{Atom, out-Atom}
use Rattle.type_terms.specs.declared.atom.Atom.TheVariants as atom
use Rattle.type_terms.specs.declared.atom.Atom.TheOpen.{Atom-F}
use Rattle.type_terms.specs.declared.facts.SiteSlots.{SiteSlots}
use Rattle.type_terms.specs.declared.facts.SiteSlots.TheVariants.{Filled, Repeated}
use Rattle.type_terms.specs.Facts.{NameTable, FactTable}
use Rattle.type_terms.specs.Order.{literal_class}
use Rattle.type_terms.specs.Pieces.{written_result}
use Rattle.type_terms.specs.Widen.{all_members}

-- the order of classes, what is known of a text, and the types of the keys
pub record Table : Type 0 where
  pub classes : List ClassRow
  pub names : NameTable
  pub facts : FactTable
  pub types : Key → List Atom

abbrev pub table_of : List ClassRow → NameTable → FactTable → (Key → List Atom) → Table
table_of classes names facts types = record { classes = classes; names = names; facts = facts; types = types }

abbrev pub is_class : ClassId → ClassId → Bool
is_class one other = one.0 == other.0

abbrev pub is_builtin : ClassId → Bool
is_builtin class = nat_lt class.0 builtin_count

-- a lambda's value is made at a site of class `function`
abbrev pub is_lambda : SiteId → Bool
is_lambda site = is_class site.class (id_of builtin.Function)

abbrev pub level_class : Atom-F Atom → Option ClassId
level_class (Atom-F.Lit value) = Some (literal_class value)
level_class (Atom-F.Inst class) = Some class
level_class (Atom-F.Gen class slots) = Some class
level_class (Atom-F.Site site) = Some site.class
level_class (Atom-F.Class class) = Some (id_of builtin.Type)
level_class (Atom-F.Func func) = Some (id_of builtin.Function)
level_class (Atom-F.Bound func) = Some (id_of builtin.Function)
level_class (Atom-F.BuiltMethod row receiver) = Some (id_of builtin.Function)
level_class (Atom-F.BuiltFunc row) = Some (id_of builtin.Function)
level_class (Atom-F.Super class) = Some (id_of builtin.Object)
level_class (Atom-F.Mod name) = Some (id_of builtin.Object)
level_class (Atom-F.Special name) = Some (id_of builtin.Object)
level_class Atom-F.Unknown = None
level_class Atom-F.None = None
level_class Atom-F.Unbound = None
level_class Atom-F.Open = None
level_class Atom-F.Here = None

-- the class of a member; None has its own rule, and neither Unknown nor a mark has a class
unfoldable pub class_of : Atom → Option ClassId
class_of a = level_class (out-Atom a)

abbrev pub level_is_instance : Atom-F Atom → Bool
level_is_instance (Atom-F.Lit value) = true
level_is_instance (Atom-F.Inst class) = true
level_is_instance (Atom-F.Gen class slots) = true
level_is_instance (Atom-F.Site site) = not (is_lambda site)
level_is_instance _ = false

-- an instance of a class, no function, class or module
unfoldable pub is_instance : Atom → Bool
is_instance a = level_is_instance (out-Atom a)

-- the slots that are written
abbrev pub level_written : Atom-F Atom → Option (Slots (List Atom))
level_written (Atom-F.Gen class slots) = Some slots
level_written _ = None

abbrev pub made_slots : Table → SiteId → SiteSlots → Slots (List Atom)
made_slots t site (Filled count) = Each (map (λ place. t.types (Elem site place)) (range_with_len 0 count))
made_slots t site Repeated = Endless (t.types (Elem site 0))

abbrev pub level_slots : Table → Atom-F Atom → Option (Slots (List Atom))
level_slots t (Atom-F.Gen class slots) = Some slots
level_slots t (Atom-F.Site site) = if is_lambda site then None else Some (made_slots t site (t.facts.site_slots site))
level_slots t _ = None

-- the slots of a member: those that are written, or the types of the site's Elem keys
unfoldable pub slots_of : Table → Atom → Option (Slots (List Atom))
slots_of t a = level_slots t (out-Atom a)

-- what is written for its result, else what it returns
abbrev pub result_or_returned : Table → FuncId → Option (List Atom) → List Atom
result_or_returned t func (Some type) = type
result_or_returned t func None = t.types (Ret func)

-- what a call of a function gives
abbrev pub call_result : Table → FuncId → List Atom
call_result t func = result_or_returned t func (written_result (t.facts.func func))

abbrev pub members_or_instance : ClassId → List Atom → List Atom
members_or_instance class [] = atom.Inst class ∷ []
members_or_instance class (a ∷ more) = a ∷ more

-- what a call of a class of a file gives: an enum all its members, another class its instance
abbrev pub made_by_call : NameTable → ClassId → List Atom
made_by_call names class = members_or_instance class (all_members names class)
