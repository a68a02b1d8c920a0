-- The small language in which the rules of values are written (this project's own; what the rules are about is the Python typing
-- specification's and the Python 3.12 language reference's, 6, expressions). A term says which members a type has, given
-- the types of the keys; it can read the type of a key, and can go on from each member that is there. No
-- term can ask that a type is empty or lacks a member, so a term has no fewer members where the keys have
-- more. K are the keys, A the members of types.
use Rattle.std.specs.Prelude.{List, [], ◌∷◌, ◌++◌}
use Rattle.std.specs.List.{flat_map}

pub data Term (K A : Type 0) : Type 0 where
  -- this type
  fixed : List A → Term K A
  -- the type of a key
  read : K → Term K A
  -- what either gives
  join : Term K A → Term K A → Term K A
  -- what the second gives, where the first gives something
  given : Term K A → Term K A → Term K A
  -- what a row gives, for each member of the first
  each : Term K A → (A → Term K A) → Term K A

-- a type for each key
abbrev pub Assignment : Type 0 → Type 0 → Type 0
Assignment K A = K → List A

-- a list, unless the first one is empty
abbrev pub where_some : {A B : Type 0} → List A → List B → List B
where_some [] ys = []
where_some (x ∷ xs) ys = ys

module _ {K A : Type 0} where
  -- the members that a term gives under an assignment
  abbrev pub eval : Term K A → Assignment K A → List A
  eval (fixed type) s = type
  eval (read key) s = s key
  eval (join x y) s = eval x s ++ eval y s
  eval (given x y) s = where_some (eval x s) (eval y s)
  eval (each x row) s = flat_map (λ a. eval (row a) s) (eval x s)

  -- the keys that it names under the assignment: those of a part that counts under a condition, or of the row
  -- of a member, only where the condition holds or the member is there
  abbrev pub reads : Term K A → Assignment K A → List K
  reads (fixed type) s = []
  reads (read key) s = key ∷ []
  reads (join x y) s = reads x s ++ reads y s
  reads (given x y) s = reads x s ++ where_some (eval x s) (reads y s)
  reads (each x row) s = reads x s ++ flat_map (λ a. reads (row a) s) (eval x s)

  -- nothing
  abbrev pub never : Term K A
  never = fixed []

  abbrev pub member : A → Term K A
  member a = fixed (a ∷ [])

  -- what any of them gives
  abbrev pub several : List (Term K A) → Term K A
  several [] = never
  several (x ∷ xs) = join x (several xs)

  -- each member by a table
  abbrev pub mapped : Term K A → (A → List A) → Term K A
  mapped x table = each x (λ a. fixed (table a))
