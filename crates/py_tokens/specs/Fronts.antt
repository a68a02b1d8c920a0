-- The longest front of a text that is of a kind. A table says what kind a front is of, where it knows what follows.
-- Python 3.12 language reference, 2 "Lexical analysis": a token is the longest text that forms a legal one.
use Rattle.std.specs.Prelude.{◌≡◌, ℕ, ◌<◌, ◌≤◌, Bool, true, false, List, length, take, drop, Option, Some, None, MatchOption}

abbrev pub Table : Type 0 → Type 0
Table K = List ℕ → List ℕ → Option K

-- the first r.0 characters are of the kind r.1, and no longer front is of any
pub record IsLongest {K : Type 0} (table : List ℕ → List ℕ → Option K) (text : List ℕ) (r : ℕ × K) : Type 0 where
  pub within : r.0 ≤ length text
  pub fits : table (take r.0 text) (drop r.0 text) ≡ Some r.1
  pub longest : (m : ℕ) → r.0 < m → m ≤ length text → table (take m text) (drop m text) ≡ None

-- no front is of any kind
abbrev pub HasNone : {K : Type 0} → (List ℕ → List ℕ → Option K) → List ℕ → Type 0
HasNone table text = (m : ℕ) → m ≤ length text → table (take m text) (drop m text) ≡ None

-- what a reader answers: the longest front, or that no front is of any kind
abbrev pub Answers : {K : Type 0} → (List ℕ → List ℕ → Option K) → List ℕ → Option (ℕ × K) → Type 0
Answers table text best = MatchOption best (HasNone table text) (λ r. IsLongest table text r)

-- the first n characters pass, and no longer front does
pub record IsLongestBy (test : List ℕ → Bool) (n : ℕ) (text : List ℕ) : Type 0 where
  pub within : n ≤ length text
  pub passes : test (take n text) ≡ true
  pub longest : (m : ℕ) → n < m → m ≤ length text → test (take m text) ≡ false

-- the best so far, after one more front
abbrev pub longer : {K : Type 0} → ℕ → Option K → Option (ℕ × K) → Option (ℕ × K)
longer n None best = best
longer n (Some kind) best = Some (n, kind)
