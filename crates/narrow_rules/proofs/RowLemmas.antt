-- What stands for a class has a member, and what that says of the sides of rows.
use Rattle.std.proofs.Common.{◌≡◌, Bool, true, false, ◌||◌, List, [], ◌∷◌, refl, sym, ap, ◌∙◌}
use Rattle.std.specs.Prelude.{if◌then◌else◌}
use Rattle.std.proofs.lemmas.Bool.{false≢true}
use Rattle.py_base.specs.declared.ids.ClassId.{ClassId}
use Rattle.py_base.specs.declared.builtin.Builtin.TheVariants as builtin
use Rattle.type_terms.specs.declared.atom.Atom.{Atom}
use Rattle.type_terms.specs.Facts.{NameTable}
use Rattle.type_terms.specs.Types.{both_bools, type_of}
use Rattle.type_terms.specs.Widen.{all_members}
use Rattle.narrow_rules.specs.declared.sides.Kept.TheVariants.{Others}
use Rattle.narrow_rules.specs.declared.classes.Standing.{Standing}
use Rattle.narrow_rules.specs.declared.classes.Standing.TheVariants.{Instances, Class}
use Rattle.narrow_rules.specs.Ground.{is_class, has_some, is_set, set_members, instance_by, unknown_slots, or_one, instances}
use Rattle.narrow_rules.specs.Keep.{IsOthers, instead_of, side, becomes, standing}
use Rattle.narrow_rules.proofs.ListLemmas.{HasOne}

set_at : (b : Bool) (members : List Atom) (one : Atom) → (b || has_some members) ≡ true → or_one (if b then both_bools else members) one ≡ (if b then both_bools else members)
set_at true members one e = refl
set_at false [] one e = absurd (false≢true e)
set_at false (m ∷ members) one e = refl

one_at_most : (b : Bool) (members : List Atom) (one : Atom) → (b || has_some members) ≡ false → or_one (if b then both_bools else members) one ≡ one ∷ []
one_at_most true members one e = absurd (false≢true (sym e))
one_at_most false [] one e = refl
one_at_most false (m ∷ members) one e = absurd (false≢true (sym e))

pub instances_set : (names : NameTable) (class : ClassId) → is_set names class ≡ true → instances names class ≡ set_members names class
unfolding instances
instances_set names class e = set_at (is_class class builtin.Bool) (all_members names class) (instance_by class (unknown_slots class)) e

pub instances_one : (names : NameTable) (class : ClassId) → is_set names class ≡ false → instances names class ≡ instance_by class (unknown_slots class) ∷ []
unfolding instances
instances_one names class e = one_at_most (is_class class builtin.Bool) (all_members names class) (instance_by class (unknown_slots class)) e

or_one_some : (members : List Atom) (one : Atom) → HasOne (or_one members one)
or_one_some [] one = tt
or_one_some (m ∷ members) one = tt

pub instances_some : (names : NameTable) (class : ClassId) → HasOne (instances names class)
unfolding instances
instances_some names class = or_one_some (set_members names class) (instance_by class (unknown_slots class))

pub standing_some : (names : NameTable) (form : Standing) (class : ClassId) → HasOne (standing names form class)
standing_some names Instances class = instances_some names class
standing_some names Class class = tt

pub others_of : (atoms : List Atom) → HasOne atoms → IsOthers (instead_of atoms)
others_of [] one = elim one [ ]
others_of (a ∷ atoms) one = tt

pub becomes_others : (positive : Bool) (atoms : List Atom) → positive ≡ true → HasOne atoms → IsOthers (side positive (becomes atoms))
becomes_others true atoms e one = others_of atoms one
becomes_others false atoms e one = absurd (false≢true e)

pub guard_is : (positive : Bool) (type copy : List Atom) → positive ≡ true → HasOne type → copy ≡ type → type_of type ≡ type → Others copy ≡ side positive (becomes type)
guard_is false type copy e one is whole = absurd (false≢true e)
guard_is true [] copy e one is whole = elim one [ ]
guard_is true (t ∷ type) copy e one is whole = ap Others (is ∙ sym whole)
