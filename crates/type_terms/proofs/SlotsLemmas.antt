-- Slots compare by their form, and then by their types.
use Rattle.std.proofs.Common.{◌≡◌, ◌≢◌, List, [], ◌∷◌, map, refl, sym, ap, ◌∙◌, arith, Ordering}
use Rattle.std.specs.Ordering.{nat_cmp, ordering_then}
use Rattle.type_terms.specs.declared.atom.Slots.{Slots}
use Rattle.type_terms.specs.declared.atom.Slots.TheVariants.{Each, Endless, AnyArguments, Arguments}
use Rattle.type_terms.specs.declared.atom.Atom.{Atom}
use Rattle.type_terms.specs.SortKey.{key_cmp, listed}
use Rattle.type_terms.specs.Order.{key, members_key, keyed, form, slots_in, slots_key}
use Rattle.type_terms.proofs.KeyLemmas.{key_cmp-number, then_apart}

pub types_keyed : (types : List (List Atom)) → map listed (map (map key) types) ≡ map members_key types
types_keyed [] = refl
types_keyed (t ∷ ts) = ap (λ r. members_key t ∷ r) (types_keyed ts)

abbrev slots_cmp : Slots (List Atom) → Slots (List Atom) → Ordering
slots_cmp a b = key_cmp (slots_key (keyed a)) (slots_key (keyed b))

pub slots_cmp-Each : (a b : List (List Atom)) → key_cmp (listed (map members_key a)) (listed (map members_key b)) ≡ slots_cmp (Each a) (Each b)
slots_cmp-Each a b = rw (types_keyed a, types_keyed b) refl

pub slots_cmp-Arguments : (a b : List (List Atom)) (r s : List Atom)
    → ordering_then (key_cmp (listed (map members_key a)) (listed (map members_key b))) (key_cmp (members_key r) (members_key s)) ≡ slots_cmp (Arguments a r) (Arguments b s)
slots_cmp-Arguments a b r s = rw (types_keyed a, types_keyed b) refl

form-keyed : (a : Slots (List Atom)) → form (keyed a) ≡ form a
form-keyed (Each a) = refl
form-keyed (Endless a) = refl
form-keyed (AnyArguments a) = refl
form-keyed (Arguments a r) = refl

pub slots_cmp-apart : (a b : Slots (List Atom)) → form a ≢ form b → nat_cmp (form a) (form b) ≡ slots_cmp a b
slots_cmp-apart a b apart =
    let decided = then_apart (form a) (form b) (key_cmp (slots_in (keyed a)) (slots_in (keyed b))) apart in
    sym (key_cmp-number (form (keyed a)) (form (keyed b)) (slots_in (keyed a)) (slots_in (keyed b)) ∙ rw (form-keyed a, form-keyed b) decided)

-- other slots of the form of a variant are of that variant
pub form-Each : (b : Slots (List Atom)) → ((x : List (List Atom)) → b ≡ Each x → ⊥) → 0 ≢ form b
form-Each (Each x) other e = other x refl
form-Each _ other e = omega arith

pub form-Endless : (b : Slots (List Atom)) → ((x : List Atom) → b ≡ Endless x → ⊥) → 1 ≢ form b
form-Endless (Endless x) other e = other x refl
form-Endless _ other e = omega arith

pub form-AnyArguments : (b : Slots (List Atom)) → ((x : List Atom) → b ≡ AnyArguments x → ⊥) → 2 ≢ form b
form-AnyArguments (AnyArguments x) other e = other x refl
form-AnyArguments _ other e = omega arith

pub form-Arguments : (b : Slots (List Atom)) → ((x : List (List Atom)) (r : List Atom) → b ≡ Arguments x r → ⊥) → 3 ≢ form b
form-Arguments (Arguments x r) other e = other x r refl
form-Arguments _ other e = omega arith
