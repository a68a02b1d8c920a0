-- On taking a good class away from the lists that have it, one after another, and on the lists whose heads are good.
use Rattle.std.proofs.Common.{◌≡◌, ◌==◌, ◌<◌, ◌≤◌, ◌⊎◌, ◌||◌, ◌&&◌, ◌+◌, ℕ, Bool, true, false, not, zero, suc, List, [], ◌∷◌, length, map, set, drop, take, get_or, refl, inl, inr, ⊎_elim, subst, sym, ap, ◌∙◌, arith}
use Rattle.std.specs.Prelude.{if◌then◌else◌, Option, Some, None, All, slice_get, slice_index, find}
use Rattle.std.specs.BTreeSet.{BTreeSet, contains}
use Rattle.std.specs.Ordering.{nat_cmp}
use Rattle.std.proofs.lemmas.List.{get_or-set_other, at_drop_more}
use Rattle.std.proofs.lemmas.List.Elements.{All-head, All-tail, All-cons, All-filter}
use Rattle.std.proofs.Math.Seq.{map-set_same}
use Rattle.std.proofs.lemmas.Map.Views.{any-filter_same}
use Rattle.std.proofs.lemmas.Bool.{and_parts, or_parts, or_cases, cases_Bool, cases_eq, cases_lt, eqb-true, ne_eqb, not-true, false≢true}
use Rattle.std.proofs.lemmas.Bool.Decides.{nat_tests}
use Rattle.py_base.specs.declared.ids.ClassId.{ClassId}
use Rattle.class_rows.specs.Merge.{has, heads, is_good, pick, without}
use Rattle.class_rows.specs.Waits.{free_in, has_place, waiting, AreBelow, AreHeld, AreReady, AreWaits, Frees}
use Rattle.class_rows.proofs.Counting.{good_from_zero, good_is}
use Rattle.class_rows.proofs.Picking.{find_yes, find_no, good_tail, without_lacking, without_taken, without_kept}

-- the lists without the class at one place
abbrev pub taken : ClassId → List (List ClassId) → ℕ → List (List ClassId)
taken c lists p = set lists p (without c (get_or lists p []))

at_place : (c : ClassId) (lists : List (List ClassId)) (p : ℕ) → get_or (taken c lists p) p [] ≡ without c (get_or lists p [])
at_place c [] p = refl
at_place c (list ∷ lists) zero = refl
at_place c (list ∷ lists) (suc p) = at_place c lists p

at_taken : (c : ClassId) (lists : List (List ClassId)) (p k : ℕ) → ((k ≡ p) × (get_or (taken c lists p) k [] ≡ without c (get_or lists p []))) ⊎ ((k ≡ p → ⊥) × (get_or (taken c lists p) k [] ≡ get_or lists k []))
at_taken c lists p k =
    ⊎_elim
    (λ same. inl (same, ap (λ j. get_or (taken c lists p) j []) same ∙ at_place c lists p))
    (λ differs. inr (differs, get_or-set_other lists p k (without c (get_or lists p [])) [] differs))
    (cases_eq k p)

any_without : (c d : ClassId) (list : List ClassId) → has d (without c list) ≡ (not (d.0 == c.0) && has d list)
any_without c d list = any-filter_same (λ (x : ClassId). x.0 == d.0) (λ x. not (x.0 == c.0)) (not (d.0 == c.0)) (λ x e. ap (λ n. not (n == c.0)) (eqb-true x.0 d.0 e)) list

has_before : (c d : ClassId) (list : List ClassId) → has d (without c list) ≡ true → has d list ≡ true
has_before c d list h = (and_parts (not (d.0 == c.0)) (has d list) (sym (any_without c d list) ∙ h)).1

lacks_itself : (c : ClassId) (list : List ClassId) → has c (without c list) ≡ false
lacks_itself c list = any_without c c list ∙ ap (λ b. not b && has c list) (same_number c.0)
  where
    same_number : (n : ℕ) → (n == n) ≡ true
    same_number n = grind (arith, nat_tests)

lacks_behind : (c : ClassId) (list : List ClassId) → has c list ≡ false → has c (drop 1 list) ≡ false
lacks_behind c [] e = refl
lacks_behind c (d ∷ list) e = (or_parts (d.0 == c.0) (has c list) e).1

pub held_step : (holders : List (List ℕ)) (c : ClassId) (lists : List (List ClassId)) (p : ℕ) → AreHeld holders lists → AreHeld holders (taken c lists p)
held_step holders c lists p held k d h =
    ⊎_elim
    (λ here. ap (λ j. has_place j (get_or holders d.0 [])) here.0 ∙ held p d (has_before c d (get_or lists p []) (ap (has d) (sym here.1) ∙ h)))
    (λ other. held k d (ap (has d) (sym other.1) ∙ h))
    (at_taken c lists p k)

pub tails_step : (c : ClassId) (lists : List (List ClassId)) (p : ℕ) → ((k : ℕ) → has c (drop 1 (get_or lists k [])) ≡ false) → (k : ℕ) → has c (drop 1 (get_or (taken c lists p) k [])) ≡ false
tails_step c lists p tails k =
    ⊎_elim
    (λ here. ap (λ l. has c (drop 1 l)) here.1 ∙ lacks_behind c (without c (get_or lists p [])) (lacks_itself c (get_or lists p [])))
    (λ other. ap (λ l. has c (drop 1 l)) other.1 ∙ tails k)
    (at_taken c lists p k)

pub left_step : (c : ClassId) (lists : List (List ClassId)) (places : List ℕ) (i p : ℕ) → i < length places → p ≡ get_or places i p → ((k : ℕ) → has c (get_or lists k []) ≡ true → has_place k (drop i places) ≡ true)
    → (k : ℕ) → has c (get_or (taken c lists p) k []) ≡ true → has_place k (drop (i + 1) places) ≡ true
left_step c lists places i p within e left k h =
    ⊎_elim
    (λ here. absurd (false≢true (sym (lacks_itself c (get_or lists p [])) ∙ ap (has c) (sym here.1) ∙ h)))
    (λ other.
    let was = left k (ap (has c) (sym other.1) ∙ h) in
    let split = at_drop_more (has_place k) places i p within ∙ ap (λ j. has_place k (j ∷ drop (i + 1) places)) (sym e) in
    let no : (p == k) ≡ false = ne_eqb p k (λ same. other.0 (sym same)) in
    sym (ap (λ b. b || has_place k (drop (i + 1) places)) no) ∙ sym split ∙ was)
    (at_taken c lists p k)

pub same_step : (c : ClassId) (lists : List (List ClassId)) (p : ℕ) → map (without c) (taken c lists p) ≡ map (without c) lists
same_step c lists p =
    let l = get_or lists p [] in
    map-set_same (without c) lists p (without c l) [] (without_lacking c (without c l) (lacks_itself c l))

pub below_step : (n : ℕ) (c : ClassId) (lists : List (List ClassId)) (p : ℕ) → All (AreBelow n) lists → All (AreBelow n) (taken c lists p)
below_step n c [] p below = below
below_step n c (list ∷ lists) zero below =
    All-cons (AreBelow n) (without c list) lists (All-filter (λ x. not (x.0 == c.0)) (λ x. x.0 < n) list (All-head (AreBelow n) list lists below)) (All-tail (AreBelow n) list lists below)
below_step n c (list ∷ lists) (suc p) below =
    All-cons (AreBelow n) list (taken c lists p) (All-head (AreBelow n) list lists below) (below_step n c lists p (All-tail (AreBelow n) list lists below))

all_lack : (c : ClassId) (lists : List (List ClassId)) → ((k : ℕ) → has c (get_or lists k []) ≡ false) → map (without c) lists ≡ lists
all_lack c [] h = refl
all_lack c (list ∷ lists) h =
    ap (λ l. l ∷ map (without c) lists) (without_lacking c list (h 0)) ∙ ap (λ ls. list ∷ ls) (all_lack c lists (λ k. h (suc k)))

-- no place is left: the class is away from all lists
pub all_taken : (c : ClassId) (lists : List (List ClassId)) (places : List ℕ) → places ≡ [] → ((k : ℕ) → has c (get_or lists k []) ≡ true → has_place k places ≡ true) → map (without c) lists ≡ lists
all_taken c lists places e left =
    all_lack c lists (λ k. ⊎_elim (λ yes. absurd (false≢true (sym (ap (has_place k) e) ∙ left k yes))) (λ no. no) (cases_Bool (has c (get_or lists k []))))

pub good_tails : (c : ClassId) (lists : List (List ClassId)) → is_good lists c ≡ true → (k : ℕ) → has c (drop 1 (get_or lists k [])) ≡ false
good_tails c [] good k = refl
good_tails c (list ∷ lists) good zero = (or_parts _ _ (not-true _ good)).0
good_tails c (list ∷ lists) good (suc k) = good_tails c lists (ap not (or_parts _ _ (not-true _ good)).1) k

-- a free head
free_parts : (waits : List ℕ) (list : List ClassId) (c : ClassId) → free_in waits list ≡ Some c → (slice_get list 0 ≡ Some c) × (slice_index waits c.0 ≡ 0)
free_parts waits [] c e = absurd (cc)
free_parts waits (d ∷ list) c e =
    ⊎_elim
    (λ yes.
    let same : d ≡ c = some_same d c (sym (ap (λ b. if b then Some d else None) yes) ∙ e) in
    (ap Some same, ap (λ (x : ClassId). slice_index waits x.0) (sym same) ∙ eqb-true (slice_index waits d.0) 0 yes))
    (λ no. absurd (none_some c (sym (ap (λ b. if b then Some d else None) no) ∙ e)))
    (cases_Bool (slice_index waits d.0 == 0))
  where
    some_same : (d c : ClassId) → Some d ≡ Some c → d ≡ c
    some_same d c e = cc

    none_some : (c : ClassId) → None ≡ Some c → ⊥
    none_some c e = absurd (cc)

free_of : (waits : List ℕ) (list : List ClassId) (c : ClassId) → slice_get list 0 ≡ Some c → slice_index waits c.0 ≡ 0 → free_in waits list ≡ Some c
free_of waits [] c e z = absurd (cc)
free_of waits (d ∷ list) c e z =
    let same : c ≡ d = cc in
    let zeros : slice_index waits d.0 ≡ 0 = ap (λ (x : ClassId). slice_index waits x.0) (sym same) ∙ z in
    rw zeros e

head_below : (n : ℕ) (lists : List (List ClassId)) (k : ℕ) (c : ClassId) → All (AreBelow n) lists → slice_get (get_or lists k []) 0 ≡ Some c → c.0 < n
head_below n [] k c all e = absurd (cc)
head_below n ([] ∷ lists) zero c all e = absurd (cc)
head_below n ((d ∷ list) ∷ lists) zero c all e =
    let same : d ≡ c = cc in
    let P : ClassId → Type 0 = λ x. x.0 < n in
    subst P same (All-head P d list (All-head (AreBelow n) (d ∷ list) lists all))
head_below n (list ∷ lists) (suc k) c all e = head_below n lists k c (All-tail (AreBelow n) list lists all) e

second_below : (n : ℕ) (lists : List (List ClassId)) (k : ℕ) (c : ClassId) → All (AreBelow n) lists → slice_get (drop 1 (get_or lists k [])) 0 ≡ Some c → c.0 < n
second_below n [] k c all e = absurd (cc)
second_below n ([] ∷ lists) zero c all e = absurd (cc)
second_below n ((d ∷ []) ∷ lists) zero c all e = absurd (cc)
second_below n ((x ∷ d ∷ list) ∷ lists) zero c all e =
    let same : d ≡ c = cc in
    let P : ClassId → Type 0 = λ y. y.0 < n in
    subst P same (All-head P d list (All-tail P x (d ∷ list) (All-head (AreBelow n) (x ∷ d ∷ list) lists all)))
second_below n (list ∷ lists) (suc k) c all e = second_below n lists k c (All-tail (AreBelow n) list lists all) e

has_head : (d : ClassId) (list : List ClassId) → slice_get list 0 ≡ Some d → has d list ≡ true
has_head d [] e = absurd (cc)
has_head d (x ∷ list) e =
    let same : x ≡ d = cc in
    ap (λ b. b || has d list) (ap (λ (y : ClassId). y.0 == d.0) same ∙ same_number d.0)
  where
    same_number : (n : ℕ) → (n == n) ≡ true
    same_number n = grind (arith, nat_tests)

skip : (p : ClassId → Bool) (list : List ClassId) (lists : List (List ClassId)) → ((d : ClassId) → slice_get list 0 ≡ Some d → p d ≡ false) → find p (heads (list ∷ lists)) ≡ find p (heads lists)
skip p [] lists h = refl
skip p (d ∷ list) lists h = find_no p d (d ∷ list) lists refl (h d refl)

find_at : (p : ClassId → Bool) (lists : List (List ClassId)) (k : ℕ) (c : ClassId) → slice_get (get_or lists k []) 0 ≡ Some c → p c ≡ true
    → ((j : ℕ) (d : ClassId) → j < k → slice_get (get_or lists j []) 0 ≡ Some d → p d ≡ false) → find p (heads lists) ≡ Some c
find_at p [] k c e t before = absurd (cc)
find_at p (list ∷ lists) zero c e t before = find_yes p c list lists e t
find_at p (list ∷ lists) (suc k) c e t before =
    skip p list lists (λ d f. before 0 d (omega arith) f) ∙ find_at p lists k c e t (λ j d less. before (suc j) d (omega (arith, less)))

find_never : (p : ClassId → Bool) (lists : List (List ClassId)) → ((j : ℕ) (d : ClassId) → slice_get (get_or lists j []) 0 ≡ Some d → p d ≡ false) → find p (heads lists) ≡ None
find_never p [] h = refl
find_never p (list ∷ lists) h = skip p list lists (h 0) ∙ find_never p lists (λ j. h (suc j))

module _ (waits : List ℕ) (lists : List (List ClassId)) (below : All (AreBelow (length waits)) lists) (right : AreWaits waits lists) where
  -- a head that isn't free is no good one
  not_free : (j : ℕ) (d : ClassId) → slice_get (get_or lists j []) 0 ≡ Some d → (free_in waits (get_or lists j []) ≡ Some d → ⊥) → is_good lists d ≡ false
  not_free j d e busy =
      let within = head_below (length waits) lists j d below e in
      good_is d lists ∙ ne_eqb (waiting d.0 lists) 0 (λ none. busy (free_of waits (get_or lists j []) d e (right d.0 within ∙ none)))

  free_good : (k : ℕ) (c : ClassId) → free_in waits (get_or lists k []) ≡ Some c → (slice_get (get_or lists k []) 0 ≡ Some c) × (is_good lists c ≡ true)
  free_good k c e =
      let parts = free_parts waits (get_or lists k []) c e in
      (parts.0, good_from_zero c lists (sym (right c.0 (head_below (length waits) lists k c below parts.0)) ∙ parts.1))

  -- the free head of the first list that has one is picked
  pub pick_free : (k : ℕ) (c : ClassId) → free_in waits (get_or lists k []) ≡ Some c → ((j : ℕ) (d : ClassId) → j < k → free_in waits (get_or lists j []) ≡ Some d → ⊥) → pick lists ≡ Some c
  pick_free k c e before =
      let good = free_good k c e in
      find_at (is_good lists) lists k c good.0 good.1 (λ j d less f. not_free j d f (before j d less))

  -- where no head is free, none is picked
  pub pick_none : ((j : ℕ) (d : ClassId) → free_in waits (get_or lists j []) ≡ Some d → ⊥) → pick lists ≡ None
  pick_none busy = find_never (is_good lists) lists (λ j d e. not_free j d e (busy j d))

  -- a class that is second in a list waits
  second_waits : (p : ℕ) (d : ClassId) → slice_get (drop 1 (get_or lists p [])) 0 ≡ Some d → slice_index waits d.0 ≡ 0 → ⊥
  second_waits p d e zeros =
      let good = good_from_zero d lists (sym (right d.0 (second_below (length waits) lists p d below e)) ∙ zeros) in
      false≢true (sym (good_tails d lists good p) ∙ has_head d (drop 1 (get_or lists p [])) e)

  module _ (c : ClassId) (p : ℕ) (tails : (k : ℕ) → has c (drop 1 (get_or lists k [])) ≡ false) (ready : BTreeSet ℕ) (were : AreReady waits lists ready) where
    -- a head that waited for none before was ready
    was_ready : (k : ℕ) (d : ClassId) → slice_get (get_or (taken c lists p) k []) 0 ≡ Some d → slice_index waits d.0 ≡ 0 → contains nat_cmp ready k ≡ true
    was_ready k d head zeros =
        let l = get_or lists p [] in
        ⊎_elim
        (λ here.
        let first : slice_get (without c l) 0 ≡ Some d = ap (λ x. slice_get x 0) (sym here.1) ∙ head in
        ⊎_elim
        (λ begins. absurd (second_waits p d (ap (λ x. slice_get x 0) (without_taken c l begins (tails p)) ∙ first) zeros))
        (λ other. ap (λ j. contains nat_cmp ready j) here.0 ∙ were p d (free_of waits l d (ap (λ x. slice_get x 0) (without_kept c l other (tails p)) ∙ first) zeros))
        (cases_Bool (has c (take 1 l))))
        (λ other. were k d (free_of waits (get_or lists k []) d (ap (λ x. slice_get x 0) (sym other.1) ∙ head) zeros))
        (at_taken c lists p k)

    -- and each list whose head is freed is made ready
    pub ready_step : (waits' : List ℕ) (ready' : BTreeSet ℕ) (holders : List (List ℕ)) (freed : Option ClassId) → AreHeld holders lists → Frees waits waits' freed
        → ((k : ℕ) → contains nat_cmp ready k ≡ true → contains nat_cmp ready' k ≡ true) → ((d : ClassId) (k : ℕ) → freed ≡ Some d → has_place k (get_or holders d.0 []) ≡ true → contains nat_cmp ready' k ≡ true)
        → AreReady waits' (taken c lists p) ready'
    ready_step waits' ready' holders freed held frees more new k d e =
        let parts = free_parts waits' (get_or (taken c lists p) k []) d e in
        ⊎_elim
        (λ zeros. more k (was_ready k d parts.0 zeros))
        (λ f. new d k f (held_step holders c lists p held k d (has_head d (get_or (taken c lists p) k []) parts.0)))
        (frees d parts.1)

-- a place where no list is
pub taken_beyond : (c : ClassId) (lists : List (List ClassId)) (p : ℕ) → length lists ≤ p → lists ≡ taken c lists p
taken_beyond c [] p h = refl
taken_beyond c (list ∷ lists) zero h = absurd (omega (arith, h))
taken_beyond c (list ∷ lists) (suc p) h = ap (λ ls. list ∷ ls) (taken_beyond c lists p (omega (arith, h)))

-- what holds the freed class is made ready
pub ready_more : (holders : List (List ℕ)) (freed : Option ClassId) (c d : ClassId) (k : ℕ) (before : Bool) → freed ≡ Some c → freed ≡ Some d → has_place k (get_or holders d.0 []) ≡ true
    → (before || has_place k (get_or holders c.0 [])) ≡ true
ready_more holders freed c d k before e f h =
    let same : c ≡ d = cc in
    ap (λ (x : ClassId). before || has_place k (get_or holders x.0 [])) same ∙ ap (λ b. before || b) h ∙ or_true before
  where
    or_true : (b : Bool) → (b || true) ≡ true
    or_true true = refl
    or_true false = refl

-- where all places are ready, those with free heads are
pub all_ready : (waits : List ℕ) (lists : List (List ClassId)) (ready : BTreeSet ℕ) → ((k : ℕ) → k < length lists → contains nat_cmp ready k ≡ true) → AreReady waits lists ready
all_ready waits lists ready all k c e =
    ⊎_elim (λ within. all k within) (λ past. absurd (no_list waits lists k c past e)) (cases_lt k (length lists))
  where
    no_list : (waits : List ℕ) (lists : List (List ClassId)) (k : ℕ) (c : ClassId) → length lists ≤ k → free_in waits (get_or lists k []) ≡ Some c → ⊥
    no_list waits [] k c past e = absurd (cc)
    no_list waits (list ∷ lists) zero c past e = absurd (omega (arith, past))
    no_list waits (list ∷ lists) (suc k) c past e = no_list waits lists k c (omega (arith, past)) e
