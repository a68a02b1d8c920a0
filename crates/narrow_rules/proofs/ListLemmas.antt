-- Lists with an element, and lists that a loop makes piece by piece.
use Rattle.std.proofs.Common.{◌≡◌, ℕ, zero, suc, ◌+◌, ◌-◌, ◌<◌, Bool, true, false, ◌||◌, Result, Ok, Err, List, [], ◌∷◌, ◌++◌, length, get_or, take, drop, refl, sym, ap, subst, ◌∙◌, append_assoc, arith}
use Rattle.std.specs.Prelude.{OnErr}
use Rattle.std.specs.List.{flat_map, filter, list_any}
use Rattle.std.proofs.lemmas.List.{take_more, drop_more, append-nil}
use Rattle.std.proofs.lemmas.List.Concat.{flat_map-cons}
use Rattle.std.proofs.lemmas.Grind.{flat_map-append}
use Rattle.py_base.specs.declared.ids.ClassId.{ClassId}
use Rattle.type_terms.specs.declared.literal.Literal.TheVariants as literal
use Rattle.type_terms.specs.declared.atom.Atom.{Atom}
use Rattle.type_terms.specs.declared.atom.Atom.TheVariants as atom
use Rattle.type_terms.specs.Widen.{members_from}

abbrev pub HasOne : {X : Type 0} → List X → Type 0
HasOne [] = ⊥
HasOne (x ∷ xs) = Unit {0}

pub one_at : {X : Type 0} (xs : List X) (i : ℕ) → i < length xs → HasOne xs
one_at [] i within = absurd (omega (arith, within))
one_at (x ∷ xs) i within = tt

pub one_unless_empty : {X : Type 0} (xs : List X) → (xs ≡ [] → ⊥) → HasOne xs
one_unless_empty [] some = absurd (some refl)
one_unless_empty (x ∷ xs) some = tt

pub one_front : {X : Type 0} (xs ys : List X) → HasOne xs → HasOne (xs ++ ys)
one_front [] ys one = elim one [ ]
one_front (x ∷ xs) ys one = tt

pub one_back : {X : Type 0} (xs ys : List X) → HasOne ys → HasOne (xs ++ ys)
one_back [] ys one = one
one_back (x ∷ xs) ys one = tt

pub one_flat : {X A : Type 0} (f : X → List A) (xs : List X) → ((x : X) → HasOne (f x)) → HasOne xs → HasOne (flat_map f xs)
one_flat f [] each one = elim one [ ]
one_flat f (x ∷ xs) each one = subst HasOne (sym (flat_map-cons f x xs)) (one_front (f x) (flat_map f xs) (each x))

pub one_kept : {X : Type 0} (p : X → Bool) (xs : List X) (i : ℕ) (d : X) → i < length xs → p (get_or xs i d) ≡ true → HasOne (filter p xs)
one_kept p [] i d within e = absurd (omega (arith, within))
one_kept p (x ∷ xs) zero d within e = rw e tt
one_kept p (x ∷ xs) (suc i) d within e = elim (p x) as (λ b. p x ≡ b → HasOne (filter p (x ∷ xs))) [
  | true ↦ λ is. rw is tt
  | false ↦ λ is. rw is (one_kept p xs i d (omega (arith, within)) e)
] refl

-- a test of some element behind one that has not passed
pub any_next : {X : Type 0} (p : X → Bool) (xs : List X) (i : ℕ) (d : X) (whole : Bool) → i < length xs → p (get_or xs i d) ≡ false → list_any p (drop i xs) ≡ whole → list_any p (drop (i + 1) xs) ≡ whole
any_next p xs i d whole within e so = sym (ap (list_any p) (drop_more xs i d within) ∙ ap (λ b. b || list_any p (drop (i + 1) xs)) e) ∙ so

pub on_err : {T E : Type 0} (r : Result T E) {P : Type 0} → P → OnErr r P
on_err (Ok t) p = tt
on_err (Err e) p = p

-- one piece more
pub flat_more : {X A : Type 0} (f : X → List A) (xs : List X) (i : ℕ) (x : X) (old new : List A) → i < length xs → x ≡ get_or xs i x
    → old ≡ flat_map f (take i xs) → new ≡ old ++ f x → new ≡ flat_map f (take (i + 1) xs)
flat_more f xs i x old new within is so_far more =
    let taken : take (i + 1) xs ≡ take i xs ++ x ∷ [] = take_more xs i x within ∙ ap (λ y. take i xs ++ y ∷ []) (sym is) in
    let flat : flat_map f (take (i + 1) xs) ≡ flat_map f (take i xs) ++ f x =
    ap (flat_map f) taken ∙ flat_map-append f (take i xs) (x ∷ []) ∙ ap (λ w. flat_map f (take i xs) ++ w) (flat_map-cons f x [] ∙ append-nil (f x)) in
    more ∙ ap (λ w. w ++ f x) so_far ∙ sym flat

pub filter-append : {X : Type 0} (p : X → Bool) (xs ys : List X) → filter p (xs ++ ys) ≡ filter p xs ++ filter p ys
filter-append p [] ys = refl
filter-append p (x ∷ xs) ys = elim (p x) as (λ b. p x ≡ b → filter p ((x ∷ xs) ++ ys) ≡ filter p (x ∷ xs) ++ filter p ys) [
  | true ↦ λ is. rw is (ap (λ zs. x ∷ zs) (filter-append p xs ys))
  | false ↦ λ is. rw is (filter-append p xs ys)
] refl

-- one more that a filter keeps, or drops
pub kept_more : {X : Type 0} (p : X → Bool) (xs : List X) (i : ℕ) (x : X) → i < length xs → x ≡ get_or xs i x → p x ≡ true → filter p (take (i + 1) xs) ≡ filter p (take i xs) ++ x ∷ []
kept_more p xs i x within is e =
    let taken : take (i + 1) xs ≡ take i xs ++ x ∷ [] = take_more xs i x within ∙ ap (λ y. take i xs ++ y ∷ []) (sym is) in
    ap (filter p) taken ∙ filter-append p (take i xs) (x ∷ []) ∙ ap (λ ys. filter p (take i xs) ++ ys) (rw e refl)

pub dropped_more : {X : Type 0} (p : X → Bool) (xs : List X) (i : ℕ) (x : X) → i < length xs → x ≡ get_or xs i x → p x ≡ false → filter p (take (i + 1) xs) ≡ filter p (take i xs)
dropped_more p xs i x within is e =
    let taken : take (i + 1) xs ≡ take i xs ++ x ∷ [] = take_more xs i x within ∙ ap (λ y. take i xs ++ y ∷ []) (sym is) in
    ap (filter p) taken ∙ filter-append p (take i xs) (x ∷ []) ∙ ap (λ ys. filter p (take i xs) ++ ys) (rw e refl) ∙ append-nil (filter p (take i xs))

pub members_more : (class : ClassId) (place count : ℕ) (so_far now whole : List Atom) → place < count
    → so_far ++ members_from class place (count - place) ≡ whole → now ≡ so_far ++ atom.Lit (literal.Member class place) ∷ []
    → now ++ members_from class (place + 1) (count - (place + 1)) ≡ whole
members_more class place count so_far now whole within e pushed =
    let left : count - place ≡ suc (count - (place + 1)) = omega arith in
    rw pushed (append_assoc so_far _ _ ∙ (rw left at e))
