-- Questions and the places where they are asked.
use Rattle.std.proofs.Common.{◌≡◌, ℕ, zero, suc, ◌<◌, ◌≤◌, inl, inr, ◌⊎◌, List, [], ◌∷◌, ◌++◌, length, Some, None, refl, sym, ap, subst, ◌∙◌, append_assoc, arith}
use Rattle.std.specs.Prelude.{All, Contains, slice_get}
use Rattle.std.proofs.lemmas.List.Elements.{All-contains}
use Rattle.std.proofs.lemmas.List.{append-nil}
use Rattle.std.proofs.lemmas.Option.{same_Some, slice_get_within}
use Rattle.assign_rules.specs.declared.question.Question.{Question}
use Rattle.assign_rules.specs.Members.{Table}
use Rattle.assign_rules.specs.Accepts.{Test, HasWay, Holds}
use Rattle.assign_rules.specs.Clauses.{AreClauses}
use Rattle.assign_rules.specs.Greatest.{HasWayIn, Clauses}
use Rattle.assign_rules.specs.Places.{Match, IsAt, WayAt, WaysAt, ClausesAt, IsGrown, IsNoted, IsTold, AreTold}
use Rattle.assign_rules.proofs.Lists.{match_weaker, match_none, match_more, any_of, one_of, all_of}

pub way_later : (old new : List Question) → IsGrown old new → (way : List Question) (places : List ℕ) → WayAt old way places → WayAt new way places
way_later old new grown way places m = match_weaker (IsAt old) (IsAt new) grown way places m

pub ways_later : (old new : List Question) → IsGrown old new → (ways : List (List Question)) (placed : List (List ℕ)) → WaysAt old ways placed → WaysAt new ways placed
ways_later old new grown ways placed m = match_weaker (WayAt old) (WayAt new) (way_later old new grown) ways placed m

pub clauses_later : (old new : List Question) → IsGrown old new → (clauses : List (List (List Question))) (placed : Clauses) → ClausesAt old clauses placed → ClausesAt new clauses placed
clauses_later old new grown clauses placed m = match_weaker (WaysAt old) (WaysAt new) (ways_later old new grown) clauses placed m

-- a list with one element more
pub at_kept : {X : Type 0} (xs : List X) (x : X) (k : ℕ) (y : X) → slice_get xs k ≡ Some y → slice_get (xs ++ x ∷ []) k ≡ Some y
at_kept [] x k y e = let no : ⊥ = cc in absurd no
at_kept (z ∷ xs) x zero y e = e
at_kept (z ∷ xs) x (suc k) y e = at_kept xs x k y e

pub at_last : {X : Type 0} (xs : List X) (x : X) → slice_get (xs ++ x ∷ []) (length xs) ≡ Some x
at_last [] x = refl
at_last (z ∷ xs) x = at_last xs x

at_cases : {X : Type 0} (xs : List X) (x : X) (k : ℕ) (y : X) → slice_get (xs ++ x ∷ []) k ≡ Some y → (slice_get xs k ≡ Some y) ⊎ ((k ≡ length xs) × (x ≡ y))
at_cases [] x zero y e = inr (refl, same_Some x y e)
at_cases [] x (suc k) y e = let no : ⊥ = cc in absurd no
at_cases (z ∷ xs) x zero y e = inl e
at_cases (z ∷ xs) x (suc k) y e = elim (at_cases xs x k y e) as (λ _. (slice_get xs k ≡ Some y) ⊎ ((suc k ≡ suc (length xs)) × (x ≡ y))) [ inl h ↦ inl h | inr h ↦ inr (ap suc h.0, h.1) ]

pub grown_last : (old new : List Question) (q : Question) → new ≡ old ++ q ∷ [] → IsGrown old new
grown_last old new q e = λ r place at. subst (λ qs. IsAt qs r place) (sym e) (at_kept old q place r at)

pub is_last : (old new : List Question) (q : Question) → new ≡ old ++ q ∷ [] → IsAt new q (length old)
is_last old new q e = subst (λ qs. IsAt qs q (length old)) (sym e) (at_last old q)

pub grown_not : (old new : List Question) → new ≡ old → IsGrown old new
grown_not old new e = λ r place at. subst (λ qs. IsAt qs r place) (sym e) at

pub grown_on : (old between new : List Question) → IsGrown old between → IsGrown between new → IsGrown old new
grown_on old between new f g = λ r place at. g r place (f r place at)

none_past : {X : Type 0} (xs : List X) (n : ℕ) → slice_get xs n ≡ None → length xs ≤ n
none_past [] n e = omega arith
none_past (x ∷ xs) zero e = let no : ⊥ = cc in absurd no
none_past (x ∷ xs) (suc n) e = let past = none_past xs n e in omega arith

-- all questions stand before a place where none is
pub all_before : (questions : List Question) (n : ℕ) → slice_get questions n ≡ None → (q : Question) (place : ℕ) → IsAt questions q place → place < n
all_before questions n e q place at = let past = none_past questions n e in let within = slice_get_within questions place q at in omega arith

module _ (t : Table) (test : Test) where
  pub told_none : (questions : List Question) → AreTold t test questions []
  told_none questions place placed e = let no : ⊥ = cc in absurd no

  pub told_more : (old new : List Question) (before after : List Clauses) (q : Question) (needed : List (List (List Question)))
      → AreTold t test old before → IsGrown old new → IsAt old q (length before) → AreClauses (λ set. Holds t test set q) needed → IsNoted new needed before after → AreTold t test new after
  told_more old new before after q needed told grown at says noted place placed e =
      elim (at_cases before noted.placed place placed (subst (λ cs. slice_get cs place ≡ Some placed) noted.last e)) as (λ _. (r : Question) × IsAt new r place × IsTold t test new r placed) [
        | inl older ↦
            let found = told place placed older in
            (found.0, grown found.0 place found.1, record { needed = found.2.needed; says = found.2.says; at = clauses_later old new grown found.2.needed placed found.2.at })
        | inr last ↦
            (q, subst (λ k. IsAt new q k) (sym last.0) (grown q (length before) at), record { needed = needed; says = says; at = subst (ClausesAt new needed) last.1 noted.at })
      ]

-- part of a list with what a loop has made of it
pub record Done {X Y : Type 0} (R : X → Y → Type 0) (whole left : List X) (made : List Y) : Type 0 where
  pub done : List X
  pub parts : left ++ done ≡ whole
  pub match : Match R done made

pub done_none : {X Y : Type 0} (R : X → Y → Type 0) (whole : List X) → Done R whole whole []
done_none R whole = record { done = []; parts = append-nil whole; match = match_none R }

pub done_more : {X Y : Type 0} (R S : X → Y → Type 0) → ((x : X) (y : Y) → R x y → S x y) → (whole left rest : List X) (made : List Y) (x : X) (y : Y)
    → left ≡ rest ++ x ∷ [] → S x y → Done R whole left made → Done S whole rest (made ++ y ∷ [])
done_more R S f whole left rest made x y e s d = record {
  done = x ∷ d.done;
  parts = sym (append_assoc rest (x ∷ []) d.done) ∙ ap (λ xs. xs ++ d.done) (sym e) ∙ d.parts;
  match = match_more S d.done made x y (match_weaker R S f d.done made d.match) s;
}

pub done_all : {X Y : Type 0} (R : X → Y → Type 0) (whole left : List X) (made : List Y) → left ≡ [] → Done R whole left made → Match R whole made
done_all R whole left made e d = subst (λ xs. Match R xs made) (ap (λ xs. xs ++ d.done) (sym e) ∙ d.parts) d.match

-- a set of questions, and the places of those that are asked
module _ (questions : List Question) where
  -- where the set has each question of these places, ways of these places are ways of the set
  pub way_asked : (places : List ℕ) (set : List Question) → ((place : ℕ) (q : Question) → Contains places place → IsAt questions q place → Contains set q)
      → (ways : List (List Question)) (placed : List (List ℕ)) → WaysAt questions ways placed → HasWayIn places placed → HasWay set ways
  way_asked places set f ways placed m has =
      let found = one_of (λ way. All (Contains places) way) placed has in
      let way = m.back found.0 found.1 in
      any_of (λ w. All (Contains set) w) ways way.0 way.1 (all_of (Contains set) way.0 (λ q h.
      let at = way.2.forth q h in f at.0 q (All-contains (Contains places) found.0 at.0 found.2 at.1) at.2))

  pub all_asked : (places : List ℕ) (set : List Question) → ((place : ℕ) (q : Question) → Contains places place → IsAt questions q place → Contains set q)
      → (clauses : List (List (List Question))) (placed : Clauses) → ClausesAt questions clauses placed → All (HasWayIn places) placed → All (HasWay set) clauses
  all_asked places set f clauses placed m all = all_of (HasWay set) clauses (λ ways h.
      let at = m.forth ways h in way_asked places set f ways at.0 at.2 (All-contains (HasWayIn places) placed at.0 all at.1))

  -- where these places have each question of the set that is asked, ways of the set are ways of these places
  pub way_placed : (set : List Question) (places : List ℕ) → ((place : ℕ) (q : Question) → Contains set q → IsAt questions q place → Contains places place)
      → (ways : List (List Question)) (placed : List (List ℕ)) → WaysAt questions ways placed → HasWay set ways → HasWayIn places placed
  way_placed set places f ways placed m has =
      let found = one_of (λ way. All (Contains set) way) ways has in
      let way = m.forth found.0 found.1 in
      any_of (λ w. All (Contains places) w) placed way.0 way.1 (all_of (Contains places) way.0 (λ place h.
      let at = way.2.back place h in f place at.0 (All-contains (Contains set) found.0 at.0 found.2 at.1) at.2))

  pub all_placed : (set : List Question) (places : List ℕ) → ((place : ℕ) (q : Question) → Contains set q → IsAt questions q place → Contains places place)
      → (clauses : List (List (List Question))) (placed : Clauses) → ClausesAt questions clauses placed → All (HasWay set) clauses → All (HasWayIn places) placed
  all_placed set places f clauses placed m all = all_of (HasWayIn places) placed (λ ways h.
      let at = m.back ways h in way_placed set places f at.0 ways at.2 (All-contains (HasWay set) clauses at.0 all at.1))
