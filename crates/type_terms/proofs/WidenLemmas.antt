-- Widening by parts: lists with the same members make the same type.
use Rattle.std.proofs.Common.{◌≡◌, ℕ, suc, ◌+◌, ◌-◌, ◌<◌, Bool, true, false, ◌||◌, List, [], ◌∷◌, ◌++◌, length, get_or, take, Option, Some, None, Result, Ok, Err, refl, sym, ap, subst, ◌∙◌, append_assoc, arith}
use Rattle.std.specs.Prelude.{OnOk}
use Rattle.std.specs.List.{flat_map, list_any}
use Rattle.std.proofs.lemmas.Grind.{flat_map-append}
use Rattle.std.proofs.lemmas.List.{take_more, append-nil}
use Rattle.std.proofs.lemmas.List.Concat.{flat_map-cons}
use Rattle.py_base.specs.declared.ids.ClassId.{ClassId}
use Rattle.type_terms.specs.declared.literal.Literal.TheVariants as literal
use Rattle.type_terms.specs.declared.literal.Literal.{Literal}
use Rattle.type_terms.specs.declared.atom.Atom.{Atom, out-Atom, roll-Atom, roll-out-Atom, out-roll-Atom}
use Rattle.type_terms.specs.declared.atom.Atom.TheOpen.{Atom-F}
use Rattle.type_terms.specs.declared.atom.Atom.TheVariants as atom
use Rattle.std.proofs.lemmas.List.Folds.{list_any-append}
use Rattle.std.specs.declared.cmp.Ordering.TheVariants.{Less, Equal, Greater}
use Rattle.type_terms.specs.Facts.{NameTable}
use Rattle.type_terms.specs.Order.{atom_cmp}
use Rattle.type_terms.specs.Sets.{by_order, put, set_of}
use Rattle.type_terms.specs.Types.{has, type_of, IsType, IsWithin, union}
use Rattle.type_terms.specs.Widen.{members_from, all_members, level_widened, widened, widen, IsAlike, HasLast}
use Rattle.type_terms.proofs.OrderLaws.{atom_cmp_tells}
use Rattle.type_terms.proofs.TypeLaws.{has-append, has-type_of, has-union, type_of-IsType, union-IsType, IsType-none, same_types}

pub members_more : (class : ClassId) (place count : ℕ) (so_far now whole : List Atom) → place < count
    → so_far ++ members_from class place (count - place) ≡ whole → now ≡ so_far ++ atom.Lit (literal.Member class place) ∷ []
    → now ++ members_from class (place + 1) (count - (place + 1)) ≡ whole
members_more class place count so_far now whole within e pushed =
    let left : count - place ≡ suc (count - (place + 1)) = omega arith in
    rw pushed (append_assoc so_far _ _ ∙ (rw left at e))

or_twice : (a b : Bool) → (a || (a || b)) ≡ (a || b)
or_twice true b = refl
or_twice false b = refl

or_left : (a b c : Bool) → (a || (b || c)) ≡ (b || (a || c))
or_left true true c = refl
or_left true false c = refl
or_left false b c = refl

or_within : (a b : Bool) → (b ≡ true → a ≡ true) → a ≡ (a || b)
or_within true b f = refl
or_within false true f = f refl
or_within false false f = refl

or_first : (a b : Bool) → a ≡ true → (a || b) ≡ true
or_first a b e = ap (λ c. c || b) e

or_second : (a b : Bool) → b ≡ true → (a || b) ≡ true
or_second true b e = refl
or_second false b e = e

-- what is there already adds nothing
pub already : (atoms more : List Atom) → IsWithin more atoms → IsAlike atoms (atoms ++ more)
already atoms more h a = or_within (has atoms a) (has more a) (h a) ∙ sym (has-append atoms more a)

pub within_front : (more front back : List Atom) → IsWithin more front → IsWithin more (front ++ back)
within_front more front back h a e = has-append front back a ∙ or_first (has front a) (has back a) (h a e)

pub within_back : (front back : List Atom) → IsWithin back (front ++ back)
within_back front back a e = has-append front back a ∙ or_second (has front a) (has back a) e

pub last_grows : (names : NameTable) (last : Option ClassId) (atoms more : List Atom) → HasLast names last atoms → HasLast names last (atoms ++ more)
last_grows names None atoms more h = tt
last_grows names (Some class) atoms more h = within_front (all_members names class) atoms more h

module _ {T E : Type 0} where
  pub alike_pushed : (r : Result T E) (old new more : List Atom) → OnOk r (new ≡ old ++ more) → OnOk r (IsAlike new (old ++ more))
  alike_pushed (Ok t) old new more h = λ a. ap (λ xs. has xs a) h
  alike_pushed (Err e) old new more h = tt

  pub last_pushed : (r : Result T E) (names : NameTable) (last : Option ClassId) (old new more : List Atom) → HasLast names last old → OnOk r (new ≡ old ++ more) → OnOk r (HasLast names last new)
  last_pushed (Ok t) names last old new more k h = subst (HasLast names last) (sym h) (last_grows names last old more k)
  last_pushed (Err e) names last old new more k h = tt

-- a test of some member is one of the set
any_put : (p : Atom → Bool) (k : Atom) (xs : List Atom) → list_any p (put atom_cmp k xs) ≡ (p k || list_any p xs)
any_put p k [] = refl
any_put p k (y ∷ ys) = elim (atom_cmp k y) as (λ r. atom_cmp k y ≡ r → list_any p (by_order atom_cmp r (k ∷ y ∷ ys) (y ∷ ys) (y ∷ put atom_cmp k ys)) ≡ (p k || (p y || list_any p ys))) [
  | Less ↦ λ e. refl
  | Equal ↦ λ e. sym (ap (λ z. p z || (p y || list_any p ys)) (atom_cmp_tells k y e) ∙ or_twice (p y) (list_any p ys))
  | Greater ↦ λ e. ap (λ b. p y || b) (any_put p k ys) ∙ or_left (p y) (p k) (list_any p ys)
] refl

any_set : (p : Atom → Bool) (xs : List Atom) → list_any p (set_of atom_cmp xs) ≡ list_any p xs
any_set p [] = refl
any_set p (x ∷ xs) = any_put p x (set_of atom_cmp xs) ∙ ap (λ b. p x || b) (any_set p xs)

any_union : (p : Atom → Bool) (one other : List Atom) → list_any p (union one other) ≡ (list_any p one || list_any p other)
unfolding union type_of
any_union p one other = any_set p (one ++ other) ∙ list_any-append p one other

-- one atom more
pub alike_more : (f : Atom → List Atom) (xs : List Atom) (i : ℕ) (x : Atom) (old new : List Atom) → i < length xs → x ≡ get_or xs i x
    → IsAlike old (flat_map f (take i xs)) → IsAlike new (old ++ f x) → IsAlike new (flat_map f (take (i + 1) xs))
alike_more f xs i x old new within is so_far more a =
    let taken : take (i + 1) xs ≡ take i xs ++ x ∷ [] = take_more xs i x within ∙ ap (λ y. take i xs ++ y ∷ []) (sym is) in
    let flat : flat_map f (take (i + 1) xs) ≡ flat_map f (take i xs) ++ f x =
    ap (flat_map f) taken ∙ flat_map-append f (take i xs) (x ∷ []) ∙ ap (λ w. flat_map f (take i xs) ++ w) (flat_map-cons f x [] ∙ append-nil (f x)) in
    more a ∙ has-append old (f x) a ∙ ap (λ b. b || has (f x) a) (so_far a) ∙ sym (ap (λ ys. has ys a) flat ∙ has-append (flat_map f (take i xs)) (f x) a)

pub same_type : (one other : List Atom) → IsAlike one other → type_of one ≡ type_of other
same_type one other h = same_types (type_of one) (type_of other) (type_of-IsType one) (type_of-IsType other) (λ a. has-type_of one a ∙ h a ∙ sym (has-type_of other a))

has-none : (a : Atom) → has [] a ≡ false
unfolding has
has-none a = refl

has-flat : (f : Atom → List Atom) (xs : List Atom) (a : Atom) → has (flat_map f xs) a ≡ list_any (λ b. has (f b) a) xs
has-flat f [] a = has-none a
has-flat f (x ∷ xs) a = ap (λ ys. has ys a) (flat_map-cons f x xs) ∙ has-append (f x) (flat_map f xs) a ∙ ap (λ b. has (f x) a || b) (has-flat f xs a)

pub widen-IsType : (names : NameTable) (type : List Atom) → IsType (widen names type)
unfolding widen
widen-IsType names type = type_of-IsType (flat_map (widened names) type)

pub has-widen : (names : NameTable) (type : List Atom) (a : Atom) → has (widen names type) a ≡ list_any (λ b. has (widened names b) a) type
unfolding widen
has-widen names type a = has-type_of (flat_map (widened names) type) a ∙ has-flat (widened names) type a

-- an atom that is no literal stays
plain_at : (names : NameTable) (x : Atom-F Atom) → ((value : Literal) → roll-Atom x ≡ atom.Lit value → ⊥) → widened names (roll-Atom x) ≡ roll-Atom x ∷ []
unfolding widened
plain_at names (Atom-F.Lit value) other = absurd (other value (atom.rolls-Lit value))
plain_at names x other = ap (level_widened names (roll-Atom x)) (out-roll-Atom x)

pub plain : (names : NameTable) (a : Atom) → ((value : Literal) → a ≡ atom.Lit value → ⊥) → widened names a ≡ a ∷ []
plain names a = subst (λ b. ((value : Literal) → b ≡ atom.Lit value → ⊥) → widened names b ≡ b ∷ []) (roll-out-Atom a) (plain_at names (out-Atom a))

pub widen_is : (names : NameTable) (type atoms : List Atom) → IsAlike atoms (flat_map (widened names) type) → type_of atoms ≡ widen names type
unfolding widen
widen_is names type atoms h = same_type atoms (flat_map (widened names) type) h

pub widen-none : (names : NameTable) → widen names [] ≡ []
widen-none names = same_types (widen names []) [] (widen-IsType names []) IsType-none (λ a. has-widen names [] a ∙ sym (has-none a))

pub widen-union : (names : NameTable) (one other : List Atom) → widen names (union one other) ≡ union (widen names one) (widen names other)
widen-union names one other = same_types (widen names (union one other)) (union (widen names one) (widen names other)) (widen-IsType names (union one other)) (union-IsType (widen names one) (widen names other))
    (λ a. has-widen names (union one other) a ∙ any_union (λ b. has (widened names b) a) one other
    ∙ sym (has-union (widen names one) (widen names other) a ∙ ap (λ b. b || has (widen names other) a) (has-widen names one a) ∙ ap (λ b. list_any (λ c. has (widened names c) a) one || b) (has-widen names other a)))
