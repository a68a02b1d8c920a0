-- Sets of places as marks, and what is taken away from them.
use Rattle.std.proofs.Common.{◌≡◌, ◌↔◌, ℕ, zero, suc, ◌+◌, ◌<◌, List, [], ◌∷◌, length, get_or, replicate, cond, Bool, true, false, ◌&&◌, ◌||◌, inl, inr, refl, sym, ap, subst, ◌∙◌, arith}
use Rattle.std.specs.Prelude.{All, Contains, slice_index_or, slice_set}
use Rattle.std.specs.List.{list_any, list_all, filter}
use Rattle.std.proofs.lemmas.List.Elements.{All-contains, at_read}
use Rattle.assign_rules.specs.Greatest.{Clauses, HasWayIn, HoldsIn, IsInGreatest, is_marked, IsMarked, HoldsBy, KeepsEach, count}
use Rattle.assign_rules.proofs.Lists.{none_in, first_in, later_in, in_cases, any_of, one_of, all_of}

pub both_true : (a b : Bool) → (a && b) ≡ true → (a ≡ true) × (b ≡ true)
both_true true b h = (refl, h)
both_true false b h = (h, let no : ⊥ = cc in absurd no)

module _ {X : Type 0} (f : X → Bool) where
  pub all_true : (xs : List X) → list_all f xs ≡ true → (x : X) → Contains xs x → f x ≡ true
  all_true [] h x c = absurd (none_in x c)
  all_true (y ∷ xs) h x c =
      let both = both_true (f y) (list_all f xs) h in
      elim (in_cases y xs x c) [
        | inl same ↦ sym (ap f same) ∙ both.0
        | inr rest ↦ all_true xs both.1 x rest
      ]

  pub true_all : (xs : List X) → ((x : X) → Contains xs x → f x ≡ true) → list_all f xs ≡ true
  true_all [] h = refl
  true_all (y ∷ xs) h = ap (λ b. b && list_all f xs) (h y (first_in y xs)) ∙ true_all xs (λ x c. h x (later_in y xs x c))

  pub any_true : (xs : List X) → list_any f xs ≡ true → (x : X) × Contains xs x × (f x ≡ true)
  any_true [] h = let no : ⊥ = cc in absurd no
  any_true (y ∷ xs) h = elim (f y) as (λ b. f y ≡ b → (b || list_any f xs) ≡ true → (x : X) × Contains (y ∷ xs) x × (f x ≡ true)) [
    | true ↦ λ is any. (y, first_in y xs, is)
    | false ↦ λ is any. let found = any_true xs any in (found.0, later_in y xs found.0 found.1, found.2)
  ] refl h

  pub true_any : (xs : List X) (x : X) → Contains xs x → f x ≡ true → list_any f xs ≡ true
  true_any [] x c h = absurd (none_in x c)
  true_any (y ∷ xs) x c h = elim (in_cases y xs x c) [
    | inl same ↦ ap (λ b. b || list_any f xs) (ap f same ∙ h)
    | inr rest ↦ elim (f y) as (λ b. (b || list_any f xs) ≡ true) [ true ↦ refl | false ↦ true_any xs x rest h ]
  ]

-- what holds by marks holds by each set that has the marked places
pub holds_in : (marks : List Bool) (s : List ℕ) → ((p : ℕ) → IsMarked marks p → Contains s p) → (clauses : Clauses) → HoldsBy marks clauses → All (HasWayIn s) clauses
holds_in marks s f clauses h = all_of (HasWayIn s) clauses (λ ways c.
    let found = any_true (list_all (is_marked marks)) ways (all_true (list_any (list_all (is_marked marks))) clauses h ways c) in
    any_of (λ way. All (Contains s) way) ways found.0 found.1 (all_of (Contains s) found.0 (λ p d. f p (all_true (is_marked marks) found.0 found.2 p d))))

-- and the other way round
pub in_holds : (marks : List Bool) (s : List ℕ) → All (IsMarked marks) s → (clauses : Clauses) → All (HasWayIn s) clauses → HoldsBy marks clauses
in_holds marks s f clauses h = true_all (list_any (list_all (is_marked marks))) clauses (λ ways c.
    let found = one_of (λ way. All (Contains s) way) ways (All-contains (HasWayIn s) clauses ways h c) in
    true_any (list_all (is_marked marks)) ways found.0 found.1
    (true_all (is_marked marks) found.0 (λ p d. All-contains (IsMarked marks) s p f (All-contains (Contains s) found.0 p found.2 d))))

pub marked_within : (marks : List Bool) (p : ℕ) → IsMarked marks p → p < length marks
marked_within [] p h = let no : ⊥ = cc in absurd no
marked_within (b ∷ marks) zero h = omega arith
marked_within (b ∷ marks) (suc p) h = let within = marked_within marks p h in omega arith

-- the places of the marks
abbrev places_from : ℕ → List Bool → List ℕ
places_from k [] = []
places_from k (b ∷ marks) = cond b (k ∷ places_from (k + 1) marks) (places_from (k + 1) marks)

marked_in : (k : ℕ) (marks : List Bool) (p q : ℕ) → q ≡ k + p → IsMarked marks p → Contains (places_from k marks) q
marked_in k [] p q e h = let no : ⊥ = cc in absurd no
marked_in k (b ∷ marks) zero q e h =
    let first : q ≡ k = omega arith in
    subst (λ c. Contains (cond c (k ∷ places_from (k + 1) marks) (places_from (k + 1) marks)) q) (sym h) (subst (λ z. Contains (k ∷ places_from (k + 1) marks) z) (sym first) (first_in k (places_from (k + 1) marks)))
marked_in k (b ∷ marks) (suc p) q e h =
    let rest = marked_in (k + 1) marks p q (omega arith) h in
    elim b as (λ c. Contains (cond c (k ∷ places_from (k + 1) marks) (places_from (k + 1) marks)) q) [ true ↦ later_in k (places_from (k + 1) marks) q rest | false ↦ rest ]

marked_from : (k : ℕ) (marks : List Bool) (q : ℕ) → Contains (places_from k marks) q → (p : ℕ) × (q ≡ k + p) × IsMarked marks p
marked_from k [] q c = absurd (none_in q c)
marked_from k (b ∷ marks) q c =
    elim b as (λ d. b ≡ d → Contains (cond d (k ∷ places_from (k + 1) marks) (places_from (k + 1) marks)) q → (p : ℕ) × (q ≡ k + p) × IsMarked (b ∷ marks) p) [
      | true ↦ λ is here. elim (in_cases k (places_from (k + 1) marks) q here) [
        | inl same ↦ (zero, omega arith, is)
        | inr rest ↦ let found = marked_from (k + 1) marks q rest in (suc found.0, omega arith, found.2)
      ]
      | false ↦ λ is rest. let found = marked_from (k + 1) marks q rest in (suc found.0, omega arith, found.2)
    ] refl c

abbrev pub places : List Bool → List ℕ
places marks = places_from 0 marks

pub place_in : (marks : List Bool) (p : ℕ) → IsMarked marks p → Contains (places marks) p
place_in marks p h = marked_in 0 marks p p (omega arith) h

pub place_marked : (marks : List Bool) (p : ℕ) → Contains (places marks) p → IsMarked marks p
place_marked marks p c = let found = marked_from 0 marks p c in let same : found.0 ≡ p = omega arith in subst (IsMarked marks) same found.2

-- taking a mark away leaves the others
pub unmarked_others : (marks : List Bool) (i p : ℕ) → (p ≡ i → ⊥) → is_marked (slice_set marks i false) p ≡ is_marked marks p
unmarked_others [] i p other = refl
unmarked_others (b ∷ marks) zero zero other = absurd (other refl)
unmarked_others (b ∷ marks) zero (suc p) other = refl
unmarked_others (b ∷ marks) (suc i) zero other = refl
unmarked_others (b ∷ marks) (suc i) (suc p) other = unmarked_others marks i p (λ e. other (ap suc e))

pub unmarked_fewer : (marks : List Bool) (i : ℕ) → IsMarked marks i → count (slice_set marks i false) < count marks
unmarked_fewer [] i h = let no : ⊥ = cc in absurd no
unmarked_fewer (b ∷ marks) zero h = subst (λ c. count marks < length (cond c (c ∷ filter (λ d. d) marks) (filter (λ d. d) marks))) (sym h) (omega arith)
unmarked_fewer (b ∷ marks) (suc i) h =
    let fewer = unmarked_fewer marks i h in
    elim b as (λ c. length (cond c (c ∷ filter (λ d. d) (slice_set marks i false)) (filter (λ d. d) (slice_set marks i false))) < length (cond c (c ∷ filter (λ d. d) marks) (filter (λ d. d) marks))) [ true ↦ omega arith | false ↦ fewer ]

-- a place that doesn't hold by the marks is in no set that supports itself and lies in them
pub taken_keeps : (needs : List Clauses) (marks : List Bool) (i : ℕ) (clauses : Clauses) → i < length needs → clauses ≡ get_or needs i clauses → (HoldsBy marks clauses → ⊥) → KeepsEach needs marks (slice_set marks i false)
taken_keeps needs marks i clauses within at fails s supported inside = let is : slice_index_or needs i [] ≡ clauses = at_read needs (λ cs. cs ≡ clauses) i clauses within at refl [] in all_of (IsMarked (slice_set marks i false)) s (λ p c.
    unmarked_others marks i p (λ same. fails (in_holds marks s inside clauses (subst (λ cs. All (HasWayIn s) cs) (ap (λ q. slice_index_or needs q []) same ∙ is) (All-contains (HoldsIn needs s) s p supported c))))
    ∙ All-contains (IsMarked marks) s p inside c)

pub keeps_on : (needs : List Clauses) (old between new : List Bool) → KeepsEach needs old between → KeepsEach needs between new → KeepsEach needs old new
keeps_on needs old between new f g = λ s supported inside. g s supported (f s supported inside)

pub keeps_as : (needs : List Clauses) (old new : List Bool) → new ≡ old → KeepsEach needs old new
keeps_as needs old new same = λ s supported inside. subst (λ marks. All (IsMarked marks) s) (sym same) inside

-- at first all are marked
pub all_marked : (n p : ℕ) → p < n → IsMarked (replicate n true) p
all_marked zero p within = absurd (omega (arith, within))
all_marked (suc n) zero within = refl
all_marked (suc n) (suc p) within = all_marked n p (omega (arith, within))

-- what is left, where all that is left holds, is the greatest set
pub greatest : (needs : List Clauses) (marks : List Bool) (place : ℕ) → length marks ≡ length needs
    → KeepsEach needs (replicate (length needs) true) marks
    → ((p : ℕ) → p < length needs → IsMarked marks p → HoldsBy marks (slice_index_or needs p []))
    → IsMarked marks place ↔ IsInGreatest needs place
greatest needs marks place long above each = (
  λ h. record {
    set = places marks;
    there = place_in marks place h;
    within = all_of (λ q. q < length needs) (places marks) (λ p c. let within = marked_within marks p (place_marked marks p c) in omega arith);
    supported = all_of (HoldsIn needs (places marks)) (places marks) (λ p c.
        let here = place_marked marks p c in
        let within = marked_within marks p here in
        holds_in marks (places marks) (place_in marks) (slice_index_or needs p []) (each p (omega arith) here));
  },
  λ g. All-contains (IsMarked marks) g.set place (above g.set g.supported (all_of (IsMarked (replicate (length needs) true)) g.set (λ p c. all_marked (length needs) p (All-contains (λ q. q < length needs) g.set p g.within c)))) g.there,
)
