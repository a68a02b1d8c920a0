-- The greatest set of numbered questions that supports itself: each of its questions has for each clause a way whose questions are all in the set.
use Rattle.std.specs.Prelude.{◌≡◌, ℕ, ◌<◌, Bool, true, false, List, [], length, filter, All, Contains, slice_index_or}
use Rattle.std.specs.List.{Any, list_any, list_all}

-- what a question needs: one way of each clause
abbrev pub Clauses : Type 0
Clauses = List (List (List ℕ))

abbrev pub HasWayIn : List ℕ → List (List ℕ) → Type 0
HasWayIn set ways = Any (λ way. All (Contains set) way) ways

abbrev pub HoldsIn : List Clauses → List ℕ → ℕ → Type 0
HoldsIn needs set place = All (HasWayIn set) (slice_index_or needs place [])

-- some set has the question, and supports itself
pub record IsInGreatest (needs : List Clauses) (place : ℕ) : Type 0 where
  pub set : List ℕ
  pub there : Contains set place
  pub within : All (λ q. q < length needs) set
  pub supported : All (HoldsIn needs set) set

-- a set of places as marks
abbrev pub is_marked : List Bool → ℕ → Bool
is_marked marks place = slice_index_or marks place false

abbrev pub IsMarked : List Bool → ℕ → Type 0
IsMarked marks place = is_marked marks place ≡ true

-- by marks, what a place needs holds
abbrev pub HoldsBy : List Bool → Clauses → Type 0
HoldsBy marks clauses = list_all (list_any (list_all (is_marked marks))) clauses ≡ true

-- each set that supports itself and lies in the one lies in the other
abbrev pub KeepsEach : List Clauses → List Bool → List Bool → Type 0
KeepsEach needs old new = (s : List ℕ) → All (HoldsIn needs s) s → All (IsMarked old) s → All (IsMarked new) s

abbrev pub count : List Bool → ℕ
count marks = length (filter (λ b. b) marks)
