-- Each of the five kinds of step keeps the rule of the flags.
use Rattle.std.proofs.Common.{◌≡◌, ◌≢◌, ◌∙◌, ◌⊎◌, ℕ, zero, suc, ◌<◌, List, [], ◌∷◌, ◌++◌, Contains, length, replicate, set, get_or, refl, ap, sym, subst, inl, inr, ⊎_elim, length-set, get_or-set_same, get_or-set_other, arith}
use Rattle.std.proofs.lemmas.List.{set-get_or}
use Rattle.std.proofs.lemmas.List.Elements.{All-nil, All-cons, All-append, Contains-append_right}
use mathlib.Core.Logic.{dite}
use mathlib.Core.Option.{none, some, some-injective, some-ne-none}
use native.Mathlib.Decide.{ℕ_discrete}
use lib.ListN.{get_elem?}
use Rattle.atomic_table.specs.Table.{State, Me, step, keeps, stepped, opening, Allows, Splits, Joins}
use Rattle.atomic_table.proofs.Lists.{at_set, at_snoc}
use Rattle.cancel_flags.specs.declared.view.View.{View}
use Rattle.cancel_flags.specs.Rule.{IsRaised, AreRaised, IsRuled, raiser_of, new_raiser, new_watcher, after_raise, after_clear, after_poll, after_join}

-- The raiser's view

first_view : (views : List View) (v : View) → get_elem? views 0 ≡ some v → raiser_of views ≡ v
first_view [] v at = absurd (some-ne-none v (sym at))
first_view (x ∷ xs) v at = some-injective x v at

first_set : (views : List View) (v w : View) → get_elem? views 0 ≡ some v → raiser_of (set views 0 w) ≡ w
first_set [] v w at = absurd (some-ne-none v (sym at))
first_set (x ∷ xs) v w at = refl

first_else : (views : List View) (seat : ℕ) (w : View) → seat ≢ 0 → raiser_of (set views seat w) ≡ raiser_of views
first_else [] seat w other = refl
first_else (x ∷ xs) zero w other = absurd (other refl)
first_else (x ∷ xs) (suc seat) w other = refl

first_longer : (views : List View) (v w : View) → get_elem? views 0 ≡ some v → raiser_of (set views 0 v ++ w ∷ []) ≡ raiser_of views
first_longer [] v w at = absurd (some-ne-none v (sym at))
first_longer (x ∷ xs) v w at = sym (some-injective x v at)

-- Lists of raises

still : (raised : List (ℕ × ℕ)) (x : ℕ × ℕ) (slot n : ℕ) → IsRaised raised slot n → IsRaised (x ∷ raised) slot n
still raised x slot n is = ⊎_elim (λ none. inl none) (λ there. inr (Contains-append_right (x ∷ []) raised (slot, n) there)) is

just_raised : (raised : List (ℕ × ℕ)) (slot n : ℕ) → IsRaised ((slot, n) ∷ raised) slot n
just_raised raised slot n = inr (0, omega arith, refl)

weaker : (raised raised' found : List (ℕ × ℕ)) → ((i k : ℕ) → IsRaised raised i k → IsRaised raised' i k) → AreRaised raised found → AreRaised raised' found
weaker raised raised' found still_raised all k d within = still_raised _ _ (all k d within)

none_found : (raised : List (ℕ × ℕ)) → AreRaised raised []
none_found raised = All-nil (λ (f : ℕ × ℕ). IsRaised raised f.0 f.1)

word_after : (words : List ℕ) (slot n i : ℕ) (P : ℕ → ℕ → Type 0) → slot < length words → P slot n → ((k : ℕ) → P k (get_or words k 0)) → P i (get_or (set words slot n) i 0)
word_after words slot n i P within new old = dite (ℕ_discrete i slot)
    (λ same. subst (λ k. P k (get_or (set words slot n) k 0)) (sym same) (subst (λ m. P slot m) (sym (get_or-set_same words slot n 0 within)) new))
    (λ other. subst (λ m. P i m) (sym (get_or-set_other words slot i n 0 other)) (old i))

found_after : (views : List View) (seat : ℕ) (w : View) (raised : List (ℕ × ℕ)) → AreRaised raised w.found → ((j : ℕ) (u : View) → get_elem? views j ≡ some u → AreRaised raised u.found)
    → (j : ℕ) (u : View) → get_elem? (set views seat w) j ≡ some u → AreRaised raised u.found
found_after views seat w raised new old j u at = ⊎_elim (λ (p : (j ≡ seat) × (w ≡ u)). subst (λ (v : View). AreRaised raised v.found) p.1 new) (λ (p : (j ≢ seat) × (get_elem? views j ≡ some u)). old j u p.1) (at_set views seat j w u at)

-- A step of the raiser that writes a word

writes : (s : State (Unit {0}) View) (v w : View) (slot n : ℕ) (held : List (ℕ × Unit {0})) → IsRuled s → get_elem? s.views 0 ≡ some v → slot < 320 → w.words ≡ set v.words slot n → w.found ≡ v.found
    → ((i k : ℕ) → IsRaised v.raised i k → IsRaised w.raised i k) → IsRaised w.raised slot n → IsRuled (stepped s slot n 0 held w keeps)
writes s v w slot n held r at within words found still_raised here =
    let was = first_view s.views v at in
    let is = first_set s.views v w at in
    let count = r.slots in
    let all : (j : ℕ) (u : View) → get_elem? s.views j ≡ some u → AreRaised w.raised u.found = λ j u e. weaker v.raised w.raised u.found still_raised (subst (λ (x : View). AreRaised x.raised u.found) was (r.found j u e)) in
    record {
      slots = length-set s.words slot n ∙ r.slots;
      known = ap (λ ws. set ws slot n) (r.known ∙ ap (λ (x : View). x.words) was) ∙ (sym words ∙ ap (λ (x : View). x.words) (sym is));
      raised = λ i. subst (λ (x : View). IsRaised x.raised i (get_or (set s.words slot n) i 0)) (sym is)
          (word_after s.words slot n i (IsRaised w.raised) (omega arith) here (λ k. still_raised k (get_or s.words k 0) (subst (λ (x : View). IsRaised x.raised k (get_or s.words k 0)) was (r.raised k))));
      found = λ j u e. subst (λ (x : View). AreRaised x.raised u.found) (sym is) (found_after s.views 0 w w.raised (subst (λ fs. AreRaised w.raised fs) (sym found) (all 0 v at)) all j u e);
    }

told : (s : State (Unit {0}) View) (v : View) → IsRuled s → get_elem? s.views 0 ≡ some v → AreRaised v.raised v.found
told s v r at = subst (λ (x : View). AreRaised x.raised v.found) (first_view s.views v at) (r.found 0 v at)

pub raises : (slots id : ℕ) (me : Me (Unit {0}) View) (slot number : ℕ) → id ≡ 0 → slot < 320
    → Allows IsRuled slots id me slot (λ _. number) (λ _ w. (w ≡ (after_raise slot number me.0, me.1)) × AreRaised w.0.raised me.0.found)
raises slots id me slot number first within s r _ at _ =
    let at0 : get_elem? s.views 0 ≡ some me.0 = subst (λ k. get_elem? s.views k ≡ some me.0) first at in
    let v = me.0 in
    let w = after_raise slot number v in (
      w,
      keeps,
      tt,
      subst (λ k. IsRuled (stepped s slot number k me.1 w keeps)) (sym first) (writes s v w slot number me.1 r at0 within refl refl (still v.raised (slot, number)) (just_raised v.raised slot number)),
      (refl, weaker v.raised w.raised v.found (still v.raised (slot, number)) (told s v r at0)),
    )

pub clears : (slots id : ℕ) (me : Me (Unit {0}) View) (slot : ℕ) → id ≡ 0 → slot < 320
    → Allows IsRuled slots id me slot (λ _. 0) (λ _ w. (◌≡◌ {A = ℕ} 0 0) × (w ≡ (after_clear slot me.0, me.1)) × AreRaised w.0.raised me.0.found)
clears slots id me slot first within s r _ at _ =
    let at0 : get_elem? s.views 0 ≡ some me.0 = subst (λ k. get_elem? s.views k ≡ some me.0) first at in
    let v = me.0 in
    let w = after_clear slot v in
    (w, keeps, tt, subst (λ k. IsRuled (stepped s slot 0 k me.1 w keeps)) (sym first) (writes s v w slot 0 me.1 r at0 within refl refl (λ i k is. is) (inl refl)), (refl, refl, told s v r at0))

-- A step of a watcher, which reads a word

same_raiser : (views : List View) (seat : ℕ) (v : View) (slot n : ℕ) → get_elem? views seat ≡ some v
    → ((raiser_of (set views seat (after_poll slot n v))).words ≡ (raiser_of views).words) × ((raiser_of (set views seat (after_poll slot n v))).raised ≡ (raiser_of views).raised)
same_raiser [] seat v slot n at = (refl, refl)
same_raiser (x ∷ xs) zero v slot n at = let is = sym (some-injective x v at) in (ap (λ (u : View). u.words) is, ap (λ (u : View). u.raised) is)
same_raiser (x ∷ xs) (suc seat) v slot n at = (refl, refl)

pub polls : (slots id : ℕ) (me : Me (Unit {0}) View) (slot : ℕ) → Allows IsRuled slots id me slot (λ n. n) (λ n w. w ≡ (after_poll slot n me.0, me.1))
polls slots id me slot s r _ at _ =
    let n = get_or s.words slot 0 in
    let w = after_poll slot n me.0 in
    let same = same_raiser s.views id me.0 slot n at in
    let words : set s.words slot n ≡ s.words = set-get_or s.words slot 0 in (
      w,
      keeps,
      tt,
      record {
        slots = length-set s.words slot n ∙ r.slots;
        known = words ∙ (r.known ∙ sym same.0);
        raised = λ i. subst (λ (z : List (ℕ × ℕ) × List ℕ). IsRaised z.0 i (get_or z.1 i 0)) (λ k. (sym same.1 k, sym words k)) (r.raised i);
        found = λ j u e. subst (λ raised. AreRaised raised u.found) (sym same.1)
            (found_after s.views id w (raiser_of s.views).raised (All-cons (λ (f : ℕ × ℕ). IsRaised (raiser_of s.views).raised f.0 f.1) (slot, n) me.0.found (r.raised slot) (r.found id me.0 at)) r.found j u e);
      },
      refl,
    )

-- A seat is cut off, and a seat comes back

alone : (j : ℕ) (u : View) → get_elem? (new_raiser ∷ []) j ≡ some u → AreRaised [] u.found
alone zero u at = subst (λ (x : View). AreRaised [] x.found) (some-injective new_raiser u at) (none_found [])
alone (suc j) u at = absurd (some-ne-none u (sym at))

zeros : (n i : ℕ) → ◌≡◌ {A = ℕ} (get_or (replicate n 0) i 0) 0
zeros zero i = refl
zeros (suc n) zero = refl
zeros (suc n) (suc i) = zeros n i

pub opens : IsRuled (opening (replicate 320 0) [] new_raiser)
opens = record { slots = refl; known = refl; raised = λ i. inl (zeros 320 i); found = alone }

pub splits : (id : ℕ) (v : View) → id ≡ 0 → Splits IsRuled id v v new_watcher
splits id v first s r at =
    let at0 : get_elem? s.views 0 ≡ some v = subst (λ k. get_elem? s.views k ≡ some v) first at in
    let is = first_longer s.views v new_watcher at0 in
    subst (λ k. IsRuled record { words = s.words; homes = s.homes; views = set s.views k v ++ new_watcher ∷ [] }) (sym first)
    record {
      slots = r.slots;
      known = r.known ∙ ap (λ (x : View). x.words) (sym is);
      raised = λ i. subst (λ (x : View). IsRaised x.raised i (get_or s.words i 0)) (sym is) (r.raised i);
      found = λ j u e. subst (λ (x : View). AreRaised x.raised u.found) (sym is)
          (⊎_elim (λ old. found_after s.views 0 v (raiser_of s.views).raised (r.found 0 v at0) r.found j u old) (λ (new : new_watcher ≡ u). subst (λ (x : View). AreRaised (raiser_of s.views).raised x.found) new (none_found (raiser_of s.views).raised)) (at_snoc (set s.views 0 v) new_watcher u j e));
    }

pub joins : (id : ℕ) (v : View) (other : ℕ) (w : View) → id ≡ 0 → Joins IsRuled id v other w (after_join v w) new_watcher
joins id v other w first s r at apart there =
    let b = after_join v w in
    let at0 : get_elem? s.views 0 ≡ some v = subst (λ k. get_elem? s.views k ≡ some v) first at in
    let apart0 : other ≢ 0 = λ e. apart (e ∙ sym first) in
    let there0 : get_elem? (set s.views 0 b) other ≡ some w = subst (λ k. get_elem? (set s.views k b) other ≡ some w) first there in
    let was = first_view s.views v at0 in
    let is = first_else (set s.views 0 b) other new_watcher apart0 ∙ first_set s.views v b at0 in
    let old : (j : ℕ) (u : View) → get_elem? s.views j ≡ some u → AreRaised v.raised u.found = λ j u e. subst (λ (x : View). AreRaised x.raised u.found) was (r.found j u e) in
    let from : AreRaised v.raised w.found = ⊎_elim (λ (p : (other ≡ 0) × (b ≡ w)). absurd (apart0 p.0)) (λ (p : (other ≢ 0) × (get_elem? s.views other ≡ some w)). old other w p.1) (at_set s.views 0 other b w there0) in
    subst (λ k. IsRuled record { words = s.words; homes = s.homes; views = set (set s.views k b) other new_watcher }) (sym first)
    record {
      slots = r.slots;
      known = r.known ∙ (ap (λ (x : View). x.words) was ∙ ap (λ (x : View). x.words) (sym is));
      raised = λ i. subst (λ (x : View). IsRaised x.raised i (get_or s.words i 0)) (sym is) (subst (λ (x : View). IsRaised x.raised i (get_or s.words i 0)) was (r.raised i));
      found = λ j u e. subst (λ (x : View). AreRaised x.raised u.found) (sym is)
          (found_after (set s.views 0 b) other new_watcher v.raised (none_found v.raised) (found_after s.views 0 b v.raised (All-append (λ (f : ℕ × ℕ). IsRaised v.raised f.0 f.1) w.found v.found from (old 0 v at0)) old) j u e);
    }
