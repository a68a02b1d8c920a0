-- What parts of the code say (this project's own): the steps that rules go on by, and when parts say a rule, where the arguments of the call have some types.
use Rattle.std.specs.Prelude.{List, None, Option, Some, [], ℕ, ◌∷◌}
use Rattle.py_base.specs.declared.ids.SymId.{SymId}
use Rattle.py_base.specs.declared.key.Key.{Key}
use Rattle.type_terms.specs.Widen.{widened}
use Rattle.type_terms.specs.declared.atom.Atom.{Atom}
use Rattle.value_terms.specs.Asks.{with_arguments}
use Rattle.value_terms.specs.Chain.{chain_rank, chain_rule}
use Rattle.value_terms.specs.Outcome.{Outcome, gives}
use Rattle.value_terms.specs.Ranks.{ReachAtMost}
use Rattle.value_terms.specs.Term.{fixed}
use Rattle.value_terms.specs.Told.{Says}
use Rattle.value_terms.specs.declared.part.Part.{Part}
use Rattle.op_rules.specs.Bindings.{bound_on_class, bound_on_instance, through_class, through_instance}
use Rattle.op_rules.specs.Iterations.{iterator}
use Rattle.op_rules.specs.Protocols.{by_symbol, called_once}
use Rattle.op_rules.specs.Results.{magnitude, type_of_member}
use Rattle.op_rules.specs.World.{Rule, Value, World, with_faults}
use Rattle.op_rules.specs.declared.step.Path.{Path}
use Rattle.op_rules.specs.declared.step.Step.{Step}
use Rattle.op_rules.specs.declared.step.Path.TheVariants as path
use Rattle.op_rules.specs.declared.step.Step.TheVariants as step

abbrev pub step_says : World → Step → Atom → Rule
step_says w step.OnInstance a = gives (bound_on_instance w a)
step_says w step.OnClass a = gives (bound_on_class w a)
step_says w step.Called a = gives (called_once w a)
step_says w (step.Iterator told) a = with_faults told (iterator w a)
step_says w step.Widened a = gives (fixed (widened w.names a))
step_says w step.Magnitude a = gives (magnitude w a)
step_says w step.ClassOf a = gives (type_of_member a)

abbrev pub step_rule : World → List (List Atom) → Step → Atom → Outcome Key Atom
step_rule w args one a = with_arguments args (step_says w one a)

-- how much they weigh: an iterator goes on by a chain of two light steps, the others by none
abbrev pub step_weight : Step → ℕ
step_weight (step.Iterator told) = 2
step_weight _ = 0

-- the parts say what the rule says of arguments of these types
unfoldable pub IsCall : World → List (List Atom) → List (Part (List Step)) → Rule → Type 0
IsCall w args parts rule = Says (chain_rule (step_rule w args)) parts (with_arguments args rule)

-- whatever the arguments, and they go on by chains of two light steps at most
pub record IsGeneral (w : World) (parts : List (Part (List Step))) (rule : Rule) : Type 0 where
  pub says : (args : List (List Atom)) → Says (chain_rule (step_rule w args)) parts (with_arguments args rule)
  pub reach : ReachAtMost (chain_rank step_weight) 3 parts

unfoldable pub IsRule : World → List (Part (List Step)) → Rule → Type 0
IsRule w parts rule = IsGeneral w parts rule

-- how a member symbol is seen
abbrev pub path_steps : Path → List Step
path_steps path.OnInstance = step.OnInstance ∷ []
path_steps path.OnClass = step.OnClass ∷ []
path_steps path.Called = step.OnInstance ∷ step.Called ∷ []

abbrev pub path_value : World → Path → SymId → Value
path_value w path.OnInstance = through_instance w
path_value w path.OnClass = through_class w
path_value w path.Called = by_symbol w

-- the value, without a fault
abbrev pub IsValue : World → List (Part (List Step)) → Value → Type 0
IsValue w parts x = IsRule w parts (gives x)

-- and go on by no chain
abbrev pub IsFlat : List (Part (List Step)) → Type 0
IsFlat parts = ReachAtMost (chain_rank step_weight) 0 parts

-- parts there or not, as the value is
abbrev pub IsOwn : World → Option (List (Part (List Step))) → Option Value → Type 0
IsOwn w None None = Unit {0}
IsOwn w None (Some x) = ⊥
IsOwn w (Some parts) None = ⊥
IsOwn w (Some parts) (Some x) = IsRule w parts (gives x)

-- the same where the arguments of the call have these types
abbrev pub IsOwnCall : World → List (List Atom) → Option (List (Part (List Step))) → Option Value → Type 0
IsOwnCall w args None None = Unit {0}
IsOwnCall w args None (Some x) = ⊥
IsOwnCall w args (Some parts) None = ⊥
IsOwnCall w args (Some parts) (Some x) = IsCall w args parts (gives x)
