-- The slots of generics and of values made at a site (Python typing specification, "Generics" and "Tuples"). Those of a site are asked for; an instance without slots of its
-- own, as that of a class under list, has Unknown in each.
use Rattle.std.specs.Prelude.{List, None, Option, Some, if◌then◌else◌, length, nat_lt, slice_get, suc, zero, ℕ}
use Rattle.py_base.specs.declared.ids.ClassId.{ClassId}
use Rattle.py_base.specs.declared.ids.SiteId.{SiteId}
use Rattle.type_terms.specs.declared.atom.Atom.{Atom, out-Atom}
use Rattle.type_terms.specs.declared.atom.Atom.TheOpen.{Atom-F}
use Rattle.type_terms.specs.declared.atom.Slots.{Slots}
use Rattle.type_terms.specs.declared.facts.SiteSlots.{SiteSlots}
use Rattle.value_terms.specs.Term.{fixed, join, never, read}
use Rattle.op_rules.specs.Classes.{is_class, site_instance}
use Rattle.op_rules.specs.World.{Value, World, known, unknown}
use Rattle.value_terms.specs.declared.ask.Ask.TheVariants as ask
use Rattle.py_base.specs.declared.builtin.Builtin.TheVariants as builtin
use Rattle.type_terms.specs.declared.facts.SiteSlots.TheVariants as filling
use Rattle.type_terms.specs.declared.atom.Slots.TheVariants as slots

abbrev pub slot_in : List (List Atom) → ℕ → Value
slot_in types place = known (slice_get types place)

abbrev pub generic_slot : Slots (List Atom) → ℕ → Value
generic_slot (slots.Each types) place = slot_in types place
generic_slot (slots.Endless type) place = fixed type
generic_slot (slots.AnyArguments type) place = unknown
generic_slot (slots.Arguments types type) place = unknown

-- one slot for all entries, or one for each
abbrev pub filled_slot : SiteId → ℕ → SiteSlots → Value
filled_slot site place (filling.Filled count) = if nat_lt place count then read (ask.Elem site place) else unknown
filled_slot site place filling.Repeated = read (ask.Elem site 0)

abbrev pub site_slot : World → SiteId → ℕ → Value
site_slot w site place = filled_slot site place (w.facts.site_slots site)

abbrev pub level_slot : World → Atom-F Atom → ℕ → Value
level_slot w (Atom-F.Gen class all) place = generic_slot all place
level_slot w (Atom-F.Site site) place = site_slot w site place
level_slot w _ place = unknown

-- the type in a slot of a member
unfoldable pub slot : World → Atom → ℕ → Value
slot w a place = level_slot w (out-Atom a) place

-- how many entries a tuple of known length has
abbrev pub entry_count : Slots (List Atom) → Option ℕ
entry_count (slots.Each types) = Some (length types)
entry_count _ = None

abbrev pub filled_count : SiteSlots → Option ℕ
filled_count (filling.Filled count) = Some count
filled_count filling.Repeated = None

abbrev pub level_length : World → Atom-F Atom → Option ℕ
level_length w (Atom-F.Gen class all) = if is_class class builtin.Tuple then entry_count all else None
level_length w (Atom-F.Site site) = if is_class site.class builtin.Tuple then filled_count (w.facts.site_slots site) else None
level_length w _ = None

unfoldable pub tuple_length : World → Atom → Option ℕ
tuple_length w a = level_length w (out-Atom a)

-- the types of the first so many entries, joined
abbrev pub entries : World → Atom → ℕ → Value
entries w a zero = never
entries w a (suc n) = join (entries w a n) (slot w a n)

-- a member has slots of its own
abbrev pub level_slotted : Atom-F Atom → Option ClassId
level_slotted (Atom-F.Gen class all) = Some class
level_slotted (Atom-F.Site site) = site_instance site.class
level_slotted _ = None

-- the class of a generic or a site, but for lambdas
unfoldable pub slotted_class : Atom → Option ClassId
slotted_class a = level_slotted (out-Atom a)
