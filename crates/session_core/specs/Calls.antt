-- What the calls of a session do: to its state, to the journal that led there, and to what is handed out.
use Rattle.std.specs.Prelude.{◌≡◌, ◌⊎◌, ℕ, List, [], ◌∷◌, ◌++◌, Option, Some, None, IsPermutation, IsSorted}
use Rattle.std.specs.Ordering.{nat_cmp}
use Rattle.py_base.specs.declared.diag.Diag.{Diag}
use Rattle.py_base.specs.declared.span.Place.{Place}
use Rattle.wire_json.specs.declared.message.WireStep.{WireStep}
use Rattle.wire_json.specs.declared.reply.Out.{Out}
use Rattle.session_core.specs.declared.entry.Entry.{Entry}
use Rattle.session_core.specs.declared.entry.Entry.TheVariants.{Line}
use Rattle.session_core.specs.declared.turn.Turn.{Turn}
use Rattle.session_core.specs.Finished.{Finished}
use Rattle.session_core.specs.Machine.{State, beginning, take_line}
use Rattle.session_core.specs.Journal.{Run}
use Rattle.session_core.specs.Jobs.{OpenJob, Handed, open_job, waiting_requests, waiting_lists, IsDone, IsOutOf, entry_of, close_work}

-- A session: the machine's state, the journal that led to it, and which open jobs wait to be handed out.
pub record Serving : Type 0 where
  pub state : State
  pub journal : List Entry
  -- the jobs up to this number were handed out,
  pub handed : ℕ
  -- and these came back undone since
  pub back : List ℕ

abbrev pub new_serving : Serving
new_serving = record { state = beginning; journal = []; handed = 0; back = [] }

-- the line is in the journal, and its effect is the state
abbrev pub behind_line : Serving → WireStep → Serving
behind_line v line = record v { state = (take_line v.state line).state; journal = v.journal ++ Line v.state.taken ∷ [] }

-- a line was taken, and the turn is its effect, with the jobs that it closed in rising order
pub record TakesTurn (old : Serving) (line : WireStep) (new : Serving) (turn : Turn) : Type 0 where
  pub leads : new ≡ behind_line old line
  pub outs : turn.outs ≡ (take_line old.state line).outs
  pub given_up : IsPermutation (take_line old.state line).given_up turn.given_up
  pub rising : IsSorted nat_cmp turn.given_up
  pub ends : new.state.ended ≡ turn.ended

-- the open jobs that wait to be handed out
abbrev pub waiting_jobs : Serving → List Handed
waiting_jobs v = waiting_requests v.handed v.back v.state.docs v.state.requests ++ waiting_lists v.handed v.back v.state.docs

-- jobs were handed out
abbrev pub hand_out : Serving → Serving
hand_out v = record v { handed = v.state.made; back = [] }

-- ---- a finished job

-- the number is no open job's: nothing happens
pub record IsDropped (old : Serving) (done : Finished) (outs : List Out) (new : Serving) : Type 0 where
  pub no_job : open_job old.state done.number ≡ None
  pub writes : outs ≡ []
  pub leads : new ≡ old

-- it is an open job's, but was given up, or is of another text or work: the job waits again
pub record ComesBack (old : Serving) (done : Finished) (outs : List Out) (new : Serving) : Type 0 where
  pub job : OpenJob
  pub is_open : open_job old.state done.number ≡ Some job
  pub undone : ¬ IsDone done job
  pub writes : outs ≡ []
  pub leads : new ≡ record old { back = old.back ++ done.number ∷ [] }

-- it is the open job, done: the journal goes on by its entry, and its reply is written
pub record IsTaken (old : Serving) (done : Finished) (outs : List Out) (new : Serving) : Type 0 where
  pub job : OpenJob
  pub is_open : open_job old.state done.number ≡ Some job
  pub is_done : IsDone done job
  pub out : Out
  pub out_is : IsOutOf job.version done.work done.outcome out
  pub writes : outs ≡ out ∷ []
  pub leads : new ≡ record old { state = close_work old.state done.work; journal = old.journal ++ entry_of done.work done.outcome ∷ [] }

-- What comes of a finished job.
abbrev pub Finishes : Serving → Finished → List Out → Serving → Type 0
Finishes old done outs new = IsDropped old done outs new ⊎ ComesBack old done outs new ⊎ IsTaken old done outs new

-- ---- steps

-- a session went on by steps of the machine: they take these lines, are in the journal, and write these replies
pub record GoesOn (HasList : List ℕ → List Diag → Type 0) (HasHover : List ℕ → Place → Option (List ℕ) → Type 0) (old : Serving) (lines : List WireStep) (outs : List Out) (new : Serving) : Type 0 where
  pub entries : List Entry
  pub journal : new.journal ≡ old.journal ++ entries
  pub run : Run HasList HasHover old.state entries lines outs new.state
