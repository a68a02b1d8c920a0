-- Keys of a set of points: what is among them, and what a new one adds.
use Rattle.std.proofs.Common.{◌≡◌, ℕ, zero, suc, ◌<◌, Bool, true, false, ◌||◌, List, [], ◌∷◌, ◌++◌, refl, ap, sym, ◌∙◌, subst, ◌⊎◌, ◌↔◌, inl, inr, Some, slice_get, get_or, if◌then◌else◌, rules, IsTrue, true≢false, length, length-append, position}
use Rattle.std.specs.List.{list_any, IsDistinct}
use Rattle.std.proofs.lemmas.Option.{get_or_from_slice_get, slice_get_within, slice_get-get_or}
use Rattle.std.proofs.lemmas.List.Quantifiers.{position-Some}
use Rattle.std.proofs.lemmas.Bool.{cases_lt}
use Rattle.std.proofs.Math.Nat.{eq-or-lt_of_le}
use Rattle.std.proofs.lemmas.Map.Keys.{apart_from_distinct}
use Rattle.indexmap.specs.IndexSet.{insert_key}
use Rattle.flow_rows.specs.declared.point.Point.{Point}
use Rattle.flow_rows.specs.contracts.point.PointPartialEq.TheImpl.{eq-value}
use Rattle.flow_rows.specs.Flow.{Has}
use Rattle.point_graph.specs.Numbers.{IsApart, Keeps}
use Rattle.point_graph.specs.Building.{GrowsTo}
use Rattle.flow_rows.proofs.Flowing.{has_split, has_left, has_right}

-- `==` of points is true of a point and itself
pub same_self : (p : Point) → eq-value.it p p ≡ true
same_self p = search rules

not_before : (same : Point → Point → Bool) (self : (p : Point) → same p p ≡ true) (ks : List Point) → IsDistinct same ks
    → (i j : ℕ) (p : Point) → slice_get ks i ≡ Some p → slice_get ks j ≡ Some p → i < j → ⊥
not_before same self ks d i j p hi hj lt =
    let far : same (get_or ks i p) (get_or ks j p) ≡ false = apart_from_distinct same ks i j p d lt (slice_get_within ks j p hj) in
    let at-i : get_or ks i p ≡ p = get_or_from_slice_get ks i p p hi in
    let at-j : get_or ks j p ≡ p = get_or_from_slice_get ks j p p hj in
    let off : same p p ≡ false = sym (ap (λ x. same x (get_or ks j p)) at-i ∙ ap (λ x. same p x) at-j) ∙ far in
    absurd (cc (off, self p))

pub apart_of : (same : Point → Point → Bool) (self : (p : Point) → same p p ≡ true) (ks : List Point) → IsDistinct same ks → IsApart ks
apart_of same self ks d i j p hi hj = elim (cases_lt i j) [
  | inl lt ↦ absurd (not_before same self ks d i j p hi hj lt)
  | inr ge ↦ elim (eq-or-lt_of_le ge) [ inl e ↦ sym e | inr gt ↦ absurd (not_before same self ks d j i p hj hi gt) ]
]

-- what a list has stands at a place, and what stands at a place it has
pub has_at : {A : Type 0} (xs : List A) (i : ℕ) (x : A) → slice_get xs i ≡ Some x → Has xs x
has_at [] i x h = absurd (cc h)
has_at (y ∷ xs) zero x h = inl (cc h)
has_at (y ∷ xs) (suc i) x h = inr (has_at xs i x h)

pub place_of : {A : Type 0} (xs : List A) (x : A) → Has xs x → (i : ℕ) × (slice_get xs i ≡ Some x)
place_of [] x h = absurd h
place_of (y ∷ xs) x (inl h) = (0, ap Some h)
place_of (y ∷ xs) x (inr h) = let r = place_of xs x h in (suc r.0, r.1)

-- an older place keeps what it has
pub get_append : {A : Type 0} (xs ys : List A) (i : ℕ) (x : A) → slice_get xs i ≡ Some x → slice_get (xs ++ ys) i ≡ Some x
get_append [] ys i x h = absurd (cc h)
get_append (y ∷ xs) ys zero x h = h
get_append (y ∷ xs) ys (suc i) x h = get_append xs ys i x h

pub keeps_append : {A : Type 0} (xs ys new : List A) → new ≡ xs ++ ys → Keeps xs new
keeps_append {A} xs ys new e i p h = subst (λ (l : List A). slice_get l i ≡ Some p) (sym e) (get_append xs ys i p h)

-- a new key: it is there, or it comes last
pub insert_cases : (ks : List Point) (k : Point) (new : List Point) → new ≡ insert_key eq-value.it ks k
    → ((list_any (eq-value.it k) ks ≡ true) × (new ≡ ks)) ⊎ ((list_any (eq-value.it k) ks ≡ false) × (new ≡ ks ++ k ∷ []))
insert_cases ks k new e = go (list_any (eq-value.it k) ks) refl
  where
    go : (b : Bool) → list_any (eq-value.it k) ks ≡ b
        → ((list_any (eq-value.it k) ks ≡ true) × (new ≡ ks)) ⊎ ((list_any (eq-value.it k) ks ≡ false) × (new ≡ ks ++ k ∷ []))
    go true h = inl (h, e ∙ ap (λ b. if b then ks else ks ++ k ∷ []) h)
    go false h = inr (h, e ∙ ap (λ b. if b then ks else ks ++ k ∷ []) h)

pub insert_keeps : (ks : List Point) (k : Point) (new : List Point) → new ≡ insert_key eq-value.it ks k → Keeps ks new
insert_keeps ks k new e = elim (insert_cases ks k new e) [
  | inl h ↦ λ i p at. subst (λ (l : List Point). slice_get l i ≡ Some p) (sym h.1) at
  | inr h ↦ keeps_append ks (k ∷ []) new h.1
]

-- `==` finds no more than what is there
pub same_true : (p q : Point) → eq-value.it p q ≡ true → p ≡ q
same_true p q h = search (h, rules)

-- a test that is true of equals alone finds just what is there
pub among_has : {A : Type 0} (same : A → A → Bool) → ((x y : A) → same x y ≡ true → x ≡ y) → (xs : List A) (x : A) → list_any (same x) xs ≡ true → Has xs x
among_has same sound [] x h = absurd (true≢false (sym h))
among_has {A} same sound (y ∷ xs) x h = go (same x y) refl (λ w. among_has same sound xs x w)
  where
    go : (b : Bool) → same x y ≡ b → (list_any (same x) xs ≡ true → Has xs x) → Has (y ∷ xs) x
    go true e rest = inl (sym (sound x y e))
    go false e rest = inr (rest (sym (ap (λ b. b || list_any (same x) xs) e) ∙ h))

pub has_among : {A : Type 0} (same : A → A → Bool) → ((x : A) → same x x ≡ true) → (xs : List A) (x : A) → Has xs x → list_any (same x) xs ≡ true
has_among same self [] x h = absurd h
has_among {A} same self (y ∷ xs) x (inl h) = ap (λ b. b || list_any (same x) xs) (subst (λ (z : A). same x z ≡ true) (sym h) (self x))
has_among {A} same self (y ∷ xs) x (inr h) = go (same x y) (has_among same self xs x h)
  where
    go : (b : Bool) → list_any (same x) xs ≡ true → (b || list_any (same x) xs) ≡ true
    go true e = refl
    go false e = e

pub both_or_neither : (a b : Bool) → (a ≡ true → b ≡ true) → (b ≡ true → a ≡ true) → a ≡ b
both_or_neither true true f g = refl
both_or_neither false false f g = refl
both_or_neither true false f g = sym (f refl)
both_or_neither false true f g = g refl

-- two such tests find the same
pub tests_alike : {A : Type 0} (one other : A → A → Bool) → ((x : A) → one x x ≡ true) → ((x y : A) → one x y ≡ true → x ≡ y)
    → ((x : A) → other x x ≡ true) → ((x y : A) → other x y ≡ true → x ≡ y) → (xs : List A) (x : A) → list_any (one x) xs ≡ list_any (other x) xs
tests_alike one other one_self one_sound other_self other_sound xs x = both_or_neither (list_any (one x) xs) (list_any (other x) xs)
    (λ h. has_among other other_self xs x (among_has one one_sound xs x h))
    (λ h. has_among one one_self xs x (among_has other other_sound xs x h))

pub any_has : (ks : List Point) (k : Point) → list_any (eq-value.it k) ks ≡ true → Has ks k
any_has ks k h = among_has eq-value.it same_true ks k h

pub has_any : (ks : List Point) (k : Point) → Has ks k → list_any (eq-value.it k) ks ≡ true
has_any ks k h = has_among eq-value.it same_self ks k h

pub insert_exact : (ks : List Point) (k : Point) (new : List Point) → new ≡ insert_key eq-value.it ks k → (p : Point) → Has new p ↔ (Has ks p ⊎ (k ≡ p))
insert_exact ks k new e p = elim (insert_cases ks k new e) [
  | inl h ↦ (
    λ w. inl (subst (λ (l : List Point). Has l p) h.1 w),
    λ w. subst (λ (l : List Point). Has l p) (sym h.1) (elim w [ inl a ↦ a | inr q ↦ subst (λ (y : Point). Has ks y) q (any_has ks k h.0) ]),
  )
  | inr h ↦ (
    λ w. elim (has_split ks (k ∷ []) p (subst (λ (l : List Point). Has l p) h.1 w)) [ inl a ↦ inl a | inr b ↦ elim b [ inl q ↦ inr q | inr never ↦ absurd never ] ],
    λ w. subst (λ (l : List Point). Has l p) (sym h.1) (elim w [ inl a ↦ has_left ks (k ∷ []) p a | inr q ↦ has_right ks (k ∷ []) p (inl q) ]),
  )
]

pub contains_iff : (ks : List Point) (k : Point) (b : Bool) → b ≡ list_any (eq-value.it k) ks → (IsTrue b → Has ks k) × (Has ks k → IsTrue b)
contains_iff ks k true e = (λ h. any_has ks k (sym e), λ w. refl)
contains_iff ks k false e = (λ h. absurd (true≢false (sym h)), λ w. absurd (true≢false (sym (has_any ks k w) ∙ sym e)))

-- what comes last
pub get_last : {A : Type 0} (xs : List A) (x : A) → slice_get (xs ++ x ∷ []) (length xs) ≡ Some x
get_last [] x = refl
get_last (y ∷ xs) x = get_last xs x

-- a list that grows by one has what it had, and the new one last
pub push_cases : {A : Type 0} (xs : List A) (x y : A) (n : ℕ) → slice_get (xs ++ x ∷ []) n ≡ Some y → (slice_get xs n ≡ Some y) ⊎ ((n ≡ length xs) × (x ≡ y))
push_cases [] x y zero h = inr (refl, cc h)
push_cases [] x y (suc n) h = absurd (cc h)
push_cases (z ∷ xs) x y zero h = inl h
push_cases (z ∷ xs) x y (suc n) h = elim (push_cases xs x y n h) [ inl a ↦ inl a | inr b ↦ inr (ap suc b.0, b.1) ]

pub keeps_both : {A : Type 0} (a b c : List A) → Keeps a b → Keeps b c → Keeps a c
keeps_both a b c k l i p h = l i p (k i p h)

-- a new key has the next number
pub number_grows : (ks : List Point) (k : Point) (new : List Point) (id : ℕ) → new ≡ insert_key eq-value.it ks k → IsApart new → slice_get new id ≡ Some k
    → GrowsTo (length ks) (length new) id
number_grows ks k new id e apart at = elim (insert_cases ks k new e) [
  | inl h ↦ inl (ap length h.1, subst (λ (l : List Point). id < length l) h.1 (slice_get_within new id k at))
  | inr h ↦ inr (
    ap length h.1 ∙ length-append ks (k ∷ []),
    apart id (length ks) k at (subst (λ (l : List Point). slice_get l (length ks) ≡ Some k) (sym h.1) (get_last ks k)),
  )
]

-- what is found stands at its place
pub found_at : (ks : List Point) (k : Point) (i : ℕ) → position (eq-value.it k) ks ≡ Some i → slice_get ks i ≡ Some k
found_at ks k i h =
    let r = position-Some (eq-value.it k) ks i k h in
    slice_get-get_or ks i k r.0 ∙ ap Some (sym (same_true k (get_or ks i k) r.1))

-- what is stored at a place is the key that was looked for
pub stored_at : (ks : List Point) (k : Point) (i : ℕ) → (x : Point) × (slice_get ks i ≡ Some x) × (eq-value.it k x ≡ true) → slice_get ks i ≡ Some k
stored_at ks k i r = r.1 ∙ ap Some (sym (same_true k r.0 r.2))
