-- A job that was done, with no one to give it up.
use Rattle.std.specs.Prelude.{◌≡◌, Bool, true, false}
use Rattle.session_core.specs.declared.job.Outcome.{Outcome}
use Rattle.session_core.specs.declared.job.Outcome.TheVariants.{Listed, Hovered, Cancelled, NoMemory}
use Rattle.session_core.specs.Jobs.{Handed}
use Rattle.session_core.specs.Finished.{Finished}

-- the outcome is a list or a type
abbrev pub is_found : Outcome → Bool
is_found (Listed list) = true
is_found (Hovered type) = true
is_found Cancelled = false
is_found NoMemory = false

-- the finished job is this one, with a list or a type
pub record IsWorked (job : Handed) (done : Finished) : Type 0 where
  pub number : done.number ≡ job.number
  pub text : done.text ≡ job.text
  pub work : done.work ≡ job.work
  pub found : is_found done.outcome ≡ true
