-- A term whose keys are answered by terms: what it gives and names is what it gives and names of what the answers give and name.
use Rattle.std.specs.Prelude.{◌≡◌}
use Rattle.std.specs.List.{flat_map}
use Rattle.value_terms.specs.Term.{Term, fixed, read, join, given, each, Assignment, eval, reads}

-- the term with an answer in place of each read
abbrev pub answered : {K L A : Type 0} → (K → Term L A) → Term K A → Term L A
answered f (fixed type) = fixed type
answered f (read k) = f k
answered f (join x y) = join (answered f x) (answered f y)
answered f (given x y) = given (answered f x) (answered f y)
answered f (each x row) = each (answered f x) (λ a. answered f (row a))

-- it gives what it gives of what the answers give
abbrev pub GivesByAnswers : Type 0 → Type 0 → Type 0 → Type 0
GivesByAnswers K L A = (f : K → Term L A) (x : Term K A) (s : Assignment L A) → eval (answered f x) s ≡ eval x (λ k. eval (f k) s)

-- it names what the answers to the keys that it names name
abbrev pub NamesByAnswers : Type 0 → Type 0 → Type 0 → Type 0
NamesByAnswers K L A =
    (f : K → Term L A) (x : Term K A) (s : Assignment L A)
    → reads (answered f x) s ≡ flat_map (λ k. reads (f k) s) (reads x (λ k. eval (f k) s))
