-- What the parts of a session's calls do.
use Rattle.std.specs.Prelude.{◌≡◌, ℕ, List, [], ◌∷◌, Bool, ◌||◌, Option, Some, None}
use Rattle.wire_json.specs.declared.reply.Out.{Out}
use Rattle.session_core.specs.declared.entry.Entry.{Entry}
use Rattle.session_core.specs.declared.fit.Fit.{Fit}
use Rattle.session_core.specs.declared.fit.Fit.TheVariants.{NoJob, Undone, Done}
use Rattle.session_core.specs.declared.job.Work.{Work}
use Rattle.session_core.specs.declared.job.Outcome.{Outcome}
use Rattle.session_core.specs.declared.turn.Turn.{Turn}
use Rattle.session_core.specs.Finished.{Finished}
use Rattle.session_core.specs.Machine.{State, Effect}
use Rattle.session_core.specs.Jobs.{OpenJob, IsDone, entry_of, IsOutOf}

-- the turn and the state behind it are this effect; the turn says whether the session ended
pub record Does (effect : Effect) (ended : Bool) (new : State) (turn : Turn) : Type 0 where
  pub state : new ≡ effect.state
  pub outs : turn.outs ≡ effect.outs
  pub given_up : turn.given_up ≡ effect.given_up
  pub ends : effect.state.ended ≡ (ended || turn.ended)

-- what a finished job is to the open job of its number, if there is one
abbrev pub FitsAs : Option OpenJob → Finished → Fit → Type 0
FitsAs job done NoJob = job ≡ None
FitsAs job done Undone = (j : OpenJob) × (job ≡ Some j) × ¬ IsDone done j
FitsAs job done (Done version) = (j : OpenJob) × (job ≡ Some j) × IsDone done j × (version ≡ j.version)

-- the entry and the reply of a finished job
pub record IsAnswered (version : ℕ) (work : Work) (outcome : Outcome) (answer : Entry × List Out) : Type 0 where
  pub entry : answer.0 ≡ entry_of work outcome
  pub out : Out
  pub out_is : IsOutOf version work outcome out
  pub outs : answer.1 ≡ out ∷ []
