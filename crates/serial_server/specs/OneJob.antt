-- States in which nothing is open, or one job alone: those of a session that answers each line before it takes the next.
use Rattle.std.specs.Prelude.{◌≡◌, ◌⊎◌, ◌<◌, ℕ, [], ◌∷◌}
use Rattle.session_core.specs.declared.entry.Entry.{Entry}
use Rattle.session_core.specs.declared.entry.Entry.TheVariants.{Answer, Publish as PublishEntry}
use Rattle.session_core.specs.declared.job.Work.{Work}
use Rattle.session_core.specs.declared.job.Work.TheVariants.{Hover, Check, Publish}
use Rattle.session_core.specs.Machine.{State}
use Rattle.session_core.specs.Journal.{settling, settled}
use Rattle.session_core.specs.Jobs.{OpenJob, open_jobs, close_work}

-- the entry of a job for which there was memory
abbrev pub serial_entry : Work → Entry
serial_entry (Hover id place) = Answer id
serial_entry (Check id) = Answer id
serial_entry (Publish file version) = PublishEntry file version

-- nothing is open
pub record IsIdle (t : State) : Type 0 where
  pub jobs : open_jobs t ≡ []
  pub entries : settling t ≡ []
  pub rests : settled t ≡ t

-- this job alone is open; it was made behind these many
pub record IsBusy (made : ℕ) (t : State) (job : OpenJob) : Type 0 where
  pub jobs : open_jobs t ≡ job ∷ []
  pub entries : settling t ≡ serial_entry job.work ∷ []
  pub rests : settled t ≡ close_work t job.work
  pub above : made < job.number

abbrev pub HasOneJob : ℕ → State → Type 0
HasOneJob made t = IsIdle t ⊎ ((job : OpenJob) × IsBusy made t job)
