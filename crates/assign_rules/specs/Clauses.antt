-- What a question needs, as the code holds it: where the clauses have their ways in a set, the question holds by the set, and the other way round.
use Rattle.std.specs.Prelude.{◌≡◌, ◌++◌, List, All, Option, MatchOption, ◌↔◌}
use Rattle.assign_rules.specs.declared.question.Question.{Question}
use Rattle.assign_rules.specs.Accepts.{HasWay}

-- the ways say what a test of sets says; where none is told, it holds of each set
abbrev pub AreWays : (List Question → Type 0) → Option (List (List Question)) → Type 0
AreWays holds told = MatchOption told ((set : List Question) → holds set) (λ ways. (set : List Question) → HasWay set ways ↔ holds set)

abbrev pub AreClauses : (List Question → Type 0) → List (List (List Question)) → Type 0
AreClauses holds clauses = (set : List Question) → All (HasWay set) clauses ↔ holds set

-- what stands behind the older clauses
pub record Adds (P : List Question → Type 0) (old new : List (List (List Question))) : Type 0 where
  pub more : List (List (List Question))
  pub parts : new ≡ old ++ more
  pub says : AreClauses P more
