-- What walking back from a line rests on: the antecedents of the lines are known, and each type that was kept is right.
use Rattle.std.specs.Prelude.{◌≡◌, ℕ, ◌<◌, List, Option, None, IfSome, length, slice_index_or}
use Rattle.serial_session.specs.declared.antecedent.Antecedent.{Antecedent}
use Rattle.serial_session.specs.declared.antecedent.Antecedent.TheVariants.{Line, Unbound, Undefined}
use Rattle.serial_session.specs.declared.form.Form.{Form}
use Rattle.serial_session.specs.declared.line_type.LineType.{LineType}
use Rattle.serial_session.specs.declared.line_type.LineType.TheVariants.{Never, Unknown}
use Rattle.serial_session.specs.declared.walk.Step.{Step}
use Rattle.serial_session.specs.declared.walk.Step.TheVariants.{Found, Above}
use Rattle.serial_session.specs.Antecedents.{AreAntecedents}
use Rattle.serial_session.specs.LineTypes.{type_at, atoms_of}

-- a line's type, where one is given, is the one that it has
abbrev pub IsRight : List Form → ℕ → Option LineType → Type 0
IsRight forms line kept = IfSome kept (λ type. atoms_of type ≡ type_at forms line)

pub record IsWalk (forms : List Form) (antecedents : List (Option Antecedent)) (kept : List (Option LineType)) : Type 0 where
  pub are : AreAntecedents forms antecedents
  pub len : length kept ≡ length forms
  pub right : (line : ℕ) → line < length forms → IsRight forms line (slice_index_or kept line None)

-- a step back from a line finds its type, or a line above that has the same type
abbrev pub StepsBack : List Form → ℕ → Step → Type 0
StepsBack forms line (Found type) = atoms_of type ≡ type_at forms line
StepsBack forms line (Above above) = (above < line) × (type_at forms above ≡ type_at forms line)

-- the step back from a line with this antecedent
abbrev pub step_to : Antecedent → Step
step_to (Line line) = Above line
step_to Unbound = Found Never
step_to Undefined = Found Unknown
