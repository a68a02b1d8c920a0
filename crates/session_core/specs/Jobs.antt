-- The jobs of a session: what is open, as work for others, and what comes of a finished job.
use Rattle.std.specs.Prelude.{◌≡◌, ℕ, List, ◌++◌, Bool, true, false, ◌||◌, ◌==◌, nat_lt, if◌then◌else◌, Option, Some, None, option_map, map, filter, filter_map}
use Rattle.std.specs.List.{find, list_any}
use Rattle.wire_json.specs.declared.reply.Out.{Out}
use Rattle.wire_json.specs.declared.reply.Out.TheVariants.{Listed as ListedOut, Hovered as HoveredOut, Checked as CheckedOut, Unanswered, Unlisted}
use Rattle.session_core.specs.declared.entry.Entry.{Entry}
use Rattle.session_core.specs.declared.entry.Entry.TheVariants.{Answer, Publish as PublishEntry, NoMemoryAnswer, NoMemoryPublish}
use Rattle.session_core.specs.declared.request.Request.{Request}
use Rattle.session_core.specs.declared.request.Question.{Question}
use Rattle.session_core.specs.declared.request.Question.TheVariants.{TypeAt, Diagnostics}
use Rattle.session_core.specs.declared.job.Job.{Job}
use Rattle.session_core.specs.declared.job.Work.{Work}
use Rattle.session_core.specs.declared.job.Work.TheVariants.{Hover, Check, Publish}
use Rattle.session_core.specs.declared.job.Outcome.{Outcome}
use Rattle.session_core.specs.declared.job.Outcome.TheVariants.{Listed, Hovered, Cancelled, NoMemory}
use Rattle.session_core.specs.Doc.{Doc, Docs}
use Rattle.session_core.specs.Finished.{Finished}
use Rattle.session_core.specs.Machine.{State, doc_of, close_request, publish}

-- ---- open jobs

-- a job: its number, what it is for, the text to work on, and the version of this text
pub record OpenJob : Type 0 where
  pub number : ℕ
  pub work : Work
  pub text : List ℕ
  pub version : ℕ

abbrev pub asked_work : ℕ → Question → Work
asked_work id (TypeAt place) = Hover id place
asked_work id Diagnostics = Check id

-- the job of a request, over the text of its file as it stands
abbrev pub asked_job : Request → Doc → OpenJob
asked_job request doc = record { number = request.job; work = asked_work request.id request.question; text = doc.text; version = doc.version }

abbrev pub request_job : Docs → Request → Option OpenJob
request_job docs request = option_map (asked_job request) (doc_of docs request.file)

-- the job of a version that waits for its list
abbrev pub publishing_job : List ℕ → Doc → OpenJob
publishing_job file doc = record { number = doc.job; work = Publish file doc.version; text = doc.text; version = doc.version }

abbrev pub list_job : List ℕ × Doc → Option OpenJob
list_job (file, doc) = if doc.published then None else Some (publishing_job file doc)

-- requests in the order of acceptance, then versions in the order of files
abbrev pub open_jobs_of : Docs → List Request → List OpenJob
open_jobs_of docs requests = filter_map (request_job docs) requests ++ filter_map list_job docs

abbrev pub open_jobs : State → List OpenJob
open_jobs s = open_jobs_of s.docs s.requests

abbrev pub has_number : ℕ → OpenJob → Bool
has_number number job = job.number == number

-- the open job of this number
abbrev pub open_job : State → ℕ → Option OpenJob
open_job s number = find (has_number number) (open_jobs s)

-- what is handed out of a job
pub record Handed : Type 0 where
  pub number : ℕ
  pub work : Work
  pub text : List ℕ

abbrev pub handed_job : OpenJob → Handed
handed_job job = record { number = job.number; work = job.work; text = job.text }

-- a job as it is handed out, with its document, as what a contract sees of it
abbrev pub handed_view : {D : Type 0} → (D → List ℕ) → Job D → Handed
handed_view text_of job = record { number = job.number; work = job.work; text = text_of job.doc }

-- ---- which of them wait

abbrev pub is_back : List ℕ → ℕ → Bool
is_back back number = list_any (λ other. other == number) back

-- a job waits where it was made, or came back undone, since jobs were handed out last
abbrev pub is_waiting : ℕ → List ℕ → ℕ → Bool
is_waiting handed back number = nat_lt handed number || is_back back number

abbrev pub waits : ℕ → List ℕ → OpenJob → Bool
waits handed back job = is_waiting handed back job.number

-- the jobs of requests that wait, in the order of acceptance
abbrev pub waiting_requests : ℕ → List ℕ → Docs → List Request → List Handed
waiting_requests handed back docs requests = map handed_job (filter (waits handed back) (filter_map (request_job docs) requests))

-- the jobs of versions that wait, in the order of files
abbrev pub waiting_lists : ℕ → List ℕ → Docs → List Handed
waiting_lists handed back docs = map handed_job (filter (waits handed back) (filter_map list_job docs))

-- ---- finished jobs

-- the outcome answers: it is a list, a type or a want of memory
abbrev pub is_answer : Outcome → Bool
is_answer Cancelled = false
is_answer (Listed list) = true
is_answer (Hovered type) = true
is_answer NoMemory = true

-- the finished job is this open one, and it is done
pub record IsDone (done : Finished) (job : OpenJob) : Type 0 where
  pub text : done.text ≡ job.text
  pub work : done.work ≡ job.work
  pub answer : is_answer done.outcome ≡ true

-- the entry of a finished job
abbrev pub entry_of : Work → Outcome → Entry
entry_of (Hover id place) NoMemory = NoMemoryAnswer id
entry_of (Check id) NoMemory = NoMemoryAnswer id
entry_of (Publish file version) NoMemory = NoMemoryPublish file version
entry_of (Hover id place) outcome = Answer id
entry_of (Check id) outcome = Answer id
entry_of (Publish file version) outcome = PublishEntry file version

-- its reply has the list or the type of its outcome
abbrev pub IsOutOf : ℕ → Work → Outcome → Out → Type 0
IsOutOf version (Hover id place) (Hovered type) out = out ≡ HoveredOut id type version
IsOutOf version (Check id) (Listed list) out = out ≡ CheckedOut id list version
IsOutOf version (Publish file listed) (Listed list) out = out ≡ ListedOut file list listed
IsOutOf version (Hover id place) NoMemory out = out ≡ Unanswered id
IsOutOf version (Check id) NoMemory out = out ≡ Unanswered id
IsOutOf version (Publish file listed) NoMemory out = out ≡ Unlisted file listed
-- nothing else is written
IsOutOf version (Hover id place) (Listed list) out = ⊥
IsOutOf version (Check id) (Hovered type) out = ⊥
IsOutOf version (Publish file listed) (Hovered type) out = ⊥
IsOutOf version work Cancelled out = ⊥

-- the state behind it
abbrev pub close_work : State → Work → State
close_work s (Hover id place) = close_request s id
close_work s (Check id) = close_request s id
close_work s (Publish file version) = publish s file
