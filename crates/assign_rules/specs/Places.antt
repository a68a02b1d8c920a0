-- The questions that are asked, each at its place, and what is told of them there.
use Rattle.std.specs.Prelude.{◌≡◌, ℕ, List, [], ◌∷◌, ◌++◌, Contains, Some, slice_get}
use Rattle.assign_rules.specs.declared.question.Question.{Question}
use Rattle.assign_rules.specs.Members.{Table}
use Rattle.assign_rules.specs.Accepts.{Test, Holds}
use Rattle.assign_rules.specs.Clauses.{AreClauses}
use Rattle.assign_rules.specs.Greatest.{Clauses}

-- each element of either has one of the other that it stands for
pub record Match {X Y : Type 0} (R : X → Y → Type 0) (xs : List X) (ys : List Y) : Type 0 where
  pub forth : (x : X) → Contains xs x → (y : Y) × Contains ys y × R x y
  pub back : (y : Y) → Contains ys y → (x : X) × Contains xs x × R x y

-- the question is asked at this place
abbrev pub IsAt : List Question → Question → ℕ → Type 0
IsAt questions q place = slice_get questions place ≡ Some q

abbrev pub WayAt : List Question → List Question → List ℕ → Type 0
WayAt questions way places = Match (IsAt questions) way places

abbrev pub WaysAt : List Question → List (List Question) → List (List ℕ) → Type 0
WaysAt questions ways placed = Match (WayAt questions) ways placed

abbrev pub ClausesAt : List Question → List (List (List Question)) → Clauses → Type 0
ClausesAt questions clauses placed = Match (WaysAt questions) clauses placed

-- nothing that was asked is asked at another place later
abbrev pub IsGrown : List Question → List Question → Type 0
IsGrown old new = (q : Question) (place : ℕ) → IsAt old q place → IsAt new q place

-- what a question needs stands at this place in the list of clauses: its own clauses, by places
pub record IsTold (t : Table) (test : Test) (questions : List Question) (q : Question) (placed : Clauses) : Type 0 where
  pub needed : List (List (List Question))
  pub says : AreClauses (λ set. Holds t test set q) needed
  pub at : ClausesAt questions needed placed

abbrev pub AreTold : Table → Test → List Question → List Clauses → Type 0
AreTold t test questions clauses = (place : ℕ) (placed : Clauses) → slice_get clauses place ≡ Some placed → (q : Question) × IsAt questions q place × IsTold t test questions q placed

-- the clauses of one more question stand at the end
pub record IsNoted (questions : List Question) (clauses : List (List (List Question))) (old new : List Clauses) : Type 0 where
  pub placed : Clauses
  pub at : ClausesAt questions clauses placed
  pub last : new ≡ old ++ placed ∷ []
