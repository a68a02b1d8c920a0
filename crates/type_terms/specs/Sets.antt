-- Finite sets as lists that rise in a total order, so that two sets with the same members are equal.
use Rattle.std.specs.Prelude.{Bool, List, [], ◌∷◌}
use Rattle.std.specs.List.{list_any}
use Rattle.std.specs.declared.cmp.Ordering.{Ordering}
use Rattle.std.specs.declared.cmp.Ordering.TheVariants.{Less, Equal, Greater}
use Rattle.std.specs.Ordering.{eq_by_cmp}

module _ {K : Type 0} (cmp : K → K → Ordering) where
  -- whether an element is a member
  abbrev pub is_member : List K → K → Bool
  is_member set element = list_any (eq_by_cmp cmp element) set

  abbrev pub by_order : Ordering → List K → List K → List K → List K
  by_order Less before here after = before
  by_order Equal before here after = here
  by_order Greater before here after = after

  -- a set with one more element, in its place unless it is there
  abbrev pub put : K → List K → List K
  put element [] = element ∷ []
  put element (first ∷ rest) = by_order (cmp element first) (element ∷ first ∷ rest) (first ∷ rest) (first ∷ put element rest)

  -- the set of the elements of a list
  abbrev pub set_of : List K → List K
  set_of [] = []
  set_of (element ∷ elements) = put element (set_of elements)
