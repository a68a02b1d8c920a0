-- The longest front that a grammar of states knows, reading from the left.
use Rattle.std.proofs.Common.{inl, inr, subst, ◌≡◌, ℕ, suc, ◌+◌, ◌-◌, ◌<◌, ◌≤◌, List, [], ◌∷◌, length, take, drop, get_or, sym, ◌∙◌, ap, arith, Option, Some, None, MatchOption}
use Rattle.std.proofs.lemmas.List.{drop_more}
use Rattle.std.proofs.lemmas.Bool.{cases_lt}
use Rattle.py_tokens.specs.Fronts.{Answers, longer}

-- what a table says of the front of this length
abbrev pub at : {K : Type 0} → (List ℕ → List ℕ → Option K) → List ℕ → ℕ → Option K
at table text m = table (take m text) (drop m text)

-- test start is known of each front so far, best being the longest that is something, and of each longer front by
-- what the state says of the rest
pub record Read {S K : Type 0} (test : S → List ℕ → List ℕ → Option K) (start : S) (text : List ℕ) (best : Option (ℕ × K)) (state : S) (i : ℕ) : Type 0 where
  pub so_far : MatchOption best ((m : ℕ) → m ≤ i → at (test start) text m ≡ None) (λ r. (r.0 ≤ i) × (at (test start) text r.0 ≡ Some r.1) × ((m : ℕ) → r.0 < m → m ≤ i → at (test start) text m ≡ None))
  pub more : (m : ℕ) → at (test start) text (i + m) ≡ test state (take m (drop i text)) (drop (i + m) text)

at_or_before : (P : ℕ → Type 0) (i : ℕ) → ((m : ℕ) → m ≤ i → P m) → P (i + 1) → (m : ℕ) → m ≤ i + 1 → P m
at_or_before P i h e m l = elim (cases_lt i m) as (λ _. P m) [ inl b ↦ subst P (let same : i + 1 ≡ m = omega arith in same) e | inr b ↦ h m b ]

module _ {S K : Type 0} (test : S → List ℕ → List ℕ → Option K) (start : S) (text : List ℕ) (state : S) (i c : ℕ) (is : c ≡ get_or text i c) (h : i < length text) where
  read_char : (best : Option (ℕ × K)) → Read test start text best state i → (m : ℕ) → at (test start) text (i + 1 + m) ≡ test state (c ∷ take m (drop (i + 1) text)) (drop (i + 1 + m) text)
  read_char best r m =
      ap (λ k. at (test start) text k) (let e : i + 1 + m ≡ i + suc m = omega arith in e)
      ∙ r.more (suc m)
      ∙ ap (λ k. test state (take (suc m) (drop i text)) (drop k text)) (let e : i + suc m ≡ i + 1 + m = omega arith in e)
      ∙ ap (λ xs. test state (take (suc m) xs) (drop (i + 1 + m) text)) (drop_more text i c h)
      ∙ ap (λ x. test state (x ∷ take m (drop (i + 1) text)) (drop (i + 1 + m) text)) (sym is)

  here : (best : Option (ℕ × K)) (next : S) → Read test start text best state i → ((t rest : List ℕ) → test state (c ∷ t) rest ≡ test next t rest) → at (test start) text (i + 1) ≡ test next [] (drop (i + 1) text)
  here best next r step =
      sym (ap (λ k. at (test start) text k) (let e : i + 1 + 0 ≡ i + 1 = omega arith in e)) ∙ read_char best r 0 ∙ step [] _ ∙ ap (λ k. test next [] (drop k text)) (let e : i + 1 + 0 ≡ i + 1 = omega arith in e)

  -- what is read so far is nothing
  read_on : (best : Option (ℕ × K)) (next : S) → Read test start text best state i → ((t rest : List ℕ) → test state (c ∷ t) rest ≡ test next t rest) → test next [] (drop (i + 1) text) ≡ None → Read test start text best next (i + 1)
  read_on None next r step fails = record {
    so_far = at_or_before (λ m. at (test start) text m ≡ None) i r.so_far (here None next r step ∙ fails);
    more = λ m. read_char None r m ∙ step (take m (drop (i + 1) text)) _;
  }
  read_on (Some n) next r step fails = record {
    so_far = (omega (arith, r.so_far.0), r.so_far.1, λ m a b. at_or_before (λ k. n.0 < k → at (test start) text k ≡ None) i (λ k b a. r.so_far.2 k a b) (λ _. here (Some n) next r step ∙ fails) m b a);
    more = λ m. read_char (Some n) r m ∙ step (take m (drop (i + 1) text)) _;
  }

  -- what is read so far is something
  read_pass : (best : Option (ℕ × K)) (next : S) (kind : K) → Read test start text best state i → ((t rest : List ℕ) → test state (c ∷ t) rest ≡ test next t rest) → test next [] (drop (i + 1) text) ≡ Some kind → Read test start text (Some (i + 1, kind)) next (i + 1)
  read_pass best next kind r step passes = record {
    so_far = (omega arith, here best next r step ∙ passes, λ m a b. absurd (omega arith));
    more = λ m. read_char best r m ∙ step (take m (drop (i + 1) text)) _;
  }

  pub read_step : (best : Option (ℕ × K)) (next : S) (found : Option K) → Read test start text best state i → ((t rest : List ℕ) → test state (c ∷ t) rest ≡ test next t rest) → test next [] (drop (i + 1) text) ≡ found → Read test start text (longer (i + 1) found best) next (i + 1)
  read_step best next None r step e = read_on best next r step e
  read_step best next (Some kind) r step e = read_pass best next kind r step e

  after_it : (best : Option (ℕ × K)) → Read test start text best state i → ((t rest : List ℕ) → test state (c ∷ t) rest ≡ None) → (m : ℕ) → i < m → at (test start) text m ≡ None
  after_it best r stuck m l = ap (λ k. at (test start) text k) (let e : m ≡ i + 1 + (m - (i + 1)) = omega arith in e) ∙ read_char best r (m - (i + 1)) ∙ stuck _ _

  pub read_stuck : (best : Option (ℕ × K)) → Read test start text best state i → ((t rest : List ℕ) → test state (c ∷ t) rest ≡ None) → Answers (test start) text best
  read_stuck None r stuck = λ m l. elim (cases_lt i m) [ inl b ↦ after_it None r stuck m b | inr b ↦ r.so_far m b ]
  read_stuck (Some n) r stuck = record {
    within = omega (arith, r.so_far.0);
    fits = r.so_far.1;
    longest = λ m a b. elim (cases_lt i m) [ inl k ↦ after_it (Some n) r stuck m k | inr k ↦ r.so_far.2 m a k ];
  }

pub read_all : {S K : Type 0} (test : S → List ℕ → List ℕ → Option K) (start : S) (text : List ℕ) (best : Option (ℕ × K)) (state : S) (i : ℕ) → length text ≤ i → i ≤ length text → Read test start text best state i → Answers (test start) text best
read_all test start text None state i h k r = λ m l. r.so_far m (omega arith)
read_all test start text (Some n) state i h k r = record {
  within = omega (arith, r.so_far.0);
  fits = r.so_far.1;
  longest = λ m a b. r.so_far.2 m a (omega arith);
}

pub read_new : {S K : Type 0} (test : S → List ℕ → List ℕ → Option K) (start : S) (text : List ℕ) (found : Option K) → test start [] text ≡ found → Read test start text (longer 0 found None) start 0
read_new test start text None e = record {
  so_far = λ m l. ap (λ k. at (test start) text k) (let z : m ≡ 0 = omega arith in z) ∙ e;
  more = λ m. ap (λ k. at (test start) text k) (let z : 0 + m ≡ m = omega arith in z) ∙ ap (λ k. test start (take m text) (drop k text)) (let z : m ≡ 0 + m = omega arith in z);
}
read_new test start text (Some kind) e = record {
  so_far = (omega arith, e, λ m a b. absurd (omega arith));
  more = λ m. ap (λ k. at (test start) text k) (let z : 0 + m ≡ m = omega arith in z) ∙ ap (λ k. test start (take m text) (drop k text)) (let z : m ≡ 0 + m = omega arith in z);
}
