-- What follows from the rule of C3, in the words of those who look for such an order: it is one, and it keeps every order that the class builds on.
-- From: "A Monotonic Superclass Linearization for Dylan": an order is to keep the local precedence (the bases as they are written) and to be monotonic (the orders of the bases).
use Rattle.std.specs.Prelude.{◌≡◌, ◌⊎◌, ⊤, true, List, [], ◌∷◌, All}
use Rattle.py_base.specs.declared.ids.ClassId.{ClassId}
use Rattle.py_base.specs.declared.ids.NameId.{NameId}
use Rattle.class_rows.specs.declared.head.ClassHead.{ClassHead}
use Rattle.class_rows.specs.Classes.{BasesAreEarlier, classes, class_at}
use Rattle.class_rows.specs.Merge.{IsMerge}
use Rattle.class_rows.specs.Rows.{ClassRow, IsClass, IsRows, row_at, order_of, merged_lists, symbol_in}

-- no lists have two merges
abbrev pub OneMerge : Type 0
OneMerge = (lists : List (List ClassId)) (a b : List ClassId) → IsMerge lists a → IsMerge lists b → a ≡ b

-- the classes of the part stand in the order, one behind the other
abbrev pub IsPartOf : List ClassId → List ClassId → Type 0
IsPartOf [] order = ⊤
IsPartOf (c ∷ part) [] = ⊥
IsPartOf (c ∷ part) (d ∷ order) = ((c ≡ d) × IsPartOf part order) ⊎ IsPartOf (c ∷ part) order

-- a merge keeps the order of each list
abbrev pub MergeKeeps : Type 0
MergeKeeps = (lists : List (List ClassId)) (order : List ClassId) → IsMerge lists order → All (λ list. IsPartOf list order) lists

-- the order of a class that has one keeps the order of each base, and that of the bases
abbrev pub RowsKeep : Type 0
RowsKeep = (heads : List ClassHead) (rows : List ClassRow) (c : ClassId) → IsRows heads rows → IsClass rows c → (row_at rows c).ordered ≡ true
    → All (λ list. IsPartOf list (order_of rows c)) (merged_lists (order_of rows) (class_at (classes heads) c).bases)

-- two rows tell the same
pub record AreAlike (a b : ClassRow) : Type 0 where
  pub order : a.order ≡ b.order
  pub ordered : a.ordered ≡ b.ordered
  pub unknown_base : a.unknown_base ≡ b.unknown_base
  pub keyword : a.keyword ≡ b.keyword
  pub members : (name : NameId) → symbol_in name a.members ≡ symbol_in name b.members

-- no class statements have two tables of rows that tell different things
abbrev pub OneTable : Type 0
OneTable = (heads : List ClassHead) (a b : List ClassRow) → BasesAreEarlier heads → IsRows heads a → IsRows heads b → (c : ClassId) → IsClass a c → AreAlike (row_at a c) (row_at b c)
