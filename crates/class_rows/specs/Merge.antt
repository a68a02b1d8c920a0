-- The merge of C3: of the heads of the lists the first that stands in the tail of no list comes next and is taken away from all of them, and so on until nothing is left; where no head is like that, there is no merge.
-- From: "The Python 2.3 Method Resolution Order" (the order of Python's classes since then), and "A Monotonic Superclass Linearization for Dylan".
use Rattle.std.specs.Prelude.{◌≡◌, ◌==◌, List, [], ◌∷◌, Bool, not, Option, Some, map, drop, slice_get, filter, filter_map, find}
use Rattle.std.specs.List.{list_any}
use Rattle.py_base.specs.declared.ids.ClassId.{ClassId}

-- the list has the class
abbrev pub has : ClassId → List ClassId → Bool
has c list = list_any (λ d. d.0 == c.0) list

-- the first classes of the lists that aren't empty
abbrev pub heads : List (List ClassId) → List ClassId
heads lists = filter_map (λ list. slice_get list 0) lists

-- the class stands in the tail of no list
abbrev pub is_good : List (List ClassId) → ClassId → Bool
is_good lists c = not (list_any (λ list. has c (drop 1 list)) lists)

-- the first good head
abbrev pub pick : List (List ClassId) → Option ClassId
pick lists = find (is_good lists) (heads lists)

abbrev pub without : ClassId → List ClassId → List ClassId
without c list = filter (λ d. not (d.0 == c.0)) list

-- the order merges the lists: nothing is left of them, or its first class is picked and the rest merges what is left
abbrev pub IsMerge : List (List ClassId) → List ClassId → Type 0
IsMerge lists [] = heads lists ≡ []
IsMerge lists (c ∷ order) = (pick lists ≡ Some c) × IsMerge (map (without c) lists) order

-- the order is the class and behind it a merge of the lists
abbrev pub IsMergeBehind : ClassId → List (List ClassId) → List ClassId → Type 0
IsMergeBehind c lists order = (rest : List ClassId) × (order ≡ c ∷ rest) × IsMerge lists rest

-- some order merges the lists
abbrev pub HasMerge : List (List ClassId) → Type 0
HasMerge lists = (order : List ClassId) × IsMerge lists order
