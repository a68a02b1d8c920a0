-- How often a class stands in the tails of lists: as often as it has to wait for another one before it can be taken.
use Rattle.std.specs.Prelude.{◌≡◌, ◌==◌, ◌<◌, ◌≤◌, ◌⊎◌, if◌then◌else◌, ℕ, Bool, true, false, List, [], ◌∷◌, Option, Some, None, MatchOption, drop, length, All, count_by, sum_by, slice_index, slice_index_or}
use Rattle.std.specs.List.{list_any}
use Rattle.std.specs.BTreeSet.{BTreeSet, contains}
use Rattle.std.specs.Ordering.{nat_cmp}
use Rattle.py_base.specs.declared.ids.ClassId.{ClassId}
use Rattle.class_rows.specs.Merge.{has}

-- how often the list has the class of this number
abbrev pub occurrences : ℕ → List ClassId → ℕ
occurrences n list = count_by (λ c. c.0 == n) list

-- how often the lists have it behind their heads
abbrev pub waiting : ℕ → List (List ClassId) → ℕ
waiting n lists = sum_by (λ list. occurrences n (drop 1 list)) lists

-- the table has this number for each class
abbrev pub AreWaits : List ℕ → List (List ClassId) → Type 0
AreWaits waits lists = (n : ℕ) → n < length waits → slice_index waits n ≡ waiting n lists

-- each class of the list has a number below this one
abbrev pub AreBelow : ℕ → List ClassId → Type 0
AreBelow limit list = All (λ c. c.0 < limit) list

-- no other class waits for none than did before, but the freed one
abbrev pub Frees : List ℕ → List ℕ → Option ClassId → Type 0
Frees before after freed = (c : ClassId) → slice_index after c.0 ≡ 0 → (slice_index before c.0 ≡ 0) ⊎ (freed ≡ Some c)

-- the head of a list where it waits for no other class
abbrev pub free_in : List ℕ → List ClassId → Option ClassId
free_in waits [] = None
free_in waits (c ∷ list) = if slice_index waits c.0 == 0 then Some c else None

abbrev pub has_place : ℕ → List ℕ → Bool
has_place k places = list_any (λ j. j == k) places

-- the place of each list is among those that its classes hold
abbrev pub AreHeld : List (List ℕ) → List (List ClassId) → Type 0
AreHeld holders lists = (k : ℕ) (c : ClassId) → has c (slice_index_or lists k []) ≡ true → has_place k (slice_index_or holders c.0 []) ≡ true

-- the classes hold the place too, and what was held before
pub record AreNoted (classes : List ClassId) (place : ℕ) (before after : List (List ℕ)) : Type 0 where
  pub kept : (n k : ℕ) → has_place k (slice_index_or before n []) ≡ true → has_place k (slice_index_or after n []) ≡ true
  pub noted : (c : ClassId) → has c classes ≡ true → has_place place (slice_index_or after c.0 []) ≡ true

-- the least of the places, or none where there is none
abbrev pub IsFirst : BTreeSet ℕ → Option ℕ → Type 0
IsFirst places first = MatchOption first ((k : ℕ) → contains nat_cmp places k ≡ false) (λ p. (k : ℕ) → contains nat_cmp places k ≡ true → p ≤ k)

-- each list whose head waits for no other class is ready
abbrev pub AreReady : List ℕ → List (List ClassId) → BTreeSet ℕ → Type 0
AreReady waits lists ready = (k : ℕ) (c : ClassId) → free_in waits (slice_index_or lists k []) ≡ Some c → contains nat_cmp ready k ≡ true
