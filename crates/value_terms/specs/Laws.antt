-- What the laws of terms say: of two assignments, of the keys that a term names, and of a universe.
use Rattle.std.specs.Prelude.{◌≡◌, List}
use Rattle.std.specs.List.{Contains}
use Rattle.value_terms.specs.Term.{Term, fixed, read, join, given, each, Assignment}

module _ {X : Type 0} where
  -- each element of the one is an element of the other
  abbrev pub IsInside : List X → List X → Type 0
  IsInside one other = (x : X) → Contains one x → Contains other x

module _ {K A : Type 0} where
  -- each type of the one assignment lies inside that of the other
  abbrev pub Below : Assignment K A → Assignment K A → Type 0
  Below s t = (k : K) → IsInside (s k) (t k)

  -- two assignments have the same types at the keys of a list
  abbrev pub AgreeAt : List K → Assignment K A → Assignment K A → Type 0
  AgreeAt keys s t = (k : K) → Contains keys k → s k ≡ t k

  -- each member of the type of each key is one of the universe
  abbrev pub IsWithin : (K → Type 0) → (A → Type 0) → Assignment K A → Type 0
  IsWithin Keys Universe s = (k : K) → Keys k → (a : A) → Contains (s k) a → Universe a

  -- a term names only these keys, and gives only members of the universe
  abbrev pub IsWell : (K → Type 0) → (A → Type 0) → Term K A → Type 0
  IsWell Keys Universe (fixed type) = (a : A) → Contains type a → Universe a
  IsWell Keys Universe (read key) = Keys key
  IsWell Keys Universe (join x y) = IsWell Keys Universe x × IsWell Keys Universe y
  IsWell Keys Universe (given x y) = IsWell Keys Universe x × IsWell Keys Universe y
  IsWell Keys Universe (each x row) = IsWell Keys Universe x × ((a : A) → Universe a → IsWell Keys Universe (row a))
