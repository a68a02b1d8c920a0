-- The session machine: which files are open, which requests wait for an answer, and what each line does
-- to both. A line counts as what it reads as: a message, a refusal 1 to 4, or no message of the session.
-- Its terms are those of the Language Server Protocol 3.17, "Text Document Synchronization" and "Cancellation Support".
use Rattle.std.specs.Prelude.{ℕ, ◌+◌, List, [], ◌∷◌, ◌++◌, Bool, true, false, not, ◌==◌, nat_lt, nat_le, if◌then◌else◌, Option, Some, None, is_some, option_map, Result, Ok, Err, map, filter, length}
use Rattle.std.specs.List.{list_any}
use Rattle.std.specs.Map.{lookup, set_value, remove_entry}
use Rattle.std.specs.Option.{option_map_or}
use Rattle.std.specs.Str.{bytes_eq}
use Rattle.indexmap.specs.IndexMap.{insert_entry}
use Rattle.wire_json.specs.declared.message.Msg.{Msg}
use Rattle.wire_json.specs.declared.message.Msg.TheVariants.{Open, Edit, Close, Hover, Check, Cancel, End}
use Rattle.wire_json.specs.declared.message.LineRefusal.{LineRefusal}
use Rattle.wire_json.specs.declared.message.WireStep.{WireStep}
use Rattle.wire_json.specs.declared.message.WireStep.TheVariants as steps
use Rattle.wire_json.specs.declared.reply.By.{By}
use Rattle.wire_json.specs.declared.reply.By.TheVariants.{Request as ByRequest, Edit as ByEdit}
use Rattle.wire_json.specs.declared.reply.SessionRefusal.{SessionRefusal}
use Rattle.wire_json.specs.declared.reply.SessionRefusal.TheVariants.{UnknownFile, AlreadyOpen, StaleVersion, TooManyFiles, IdInUse, TooManyRequests}
use Rattle.wire_json.specs.declared.reply.Refusal.{Refusal}
use Rattle.wire_json.specs.declared.reply.Refusal.TheVariants.{Line as OfLine, Session as OfSession}
use Rattle.wire_json.specs.declared.reply.Out.{Out}
use Rattle.wire_json.specs.declared.reply.Out.TheVariants.{Cancelled, Refused}
use Rattle.session_core.specs.declared.request.Request.{Request}
use Rattle.session_core.specs.declared.request.Question.{Question}
use Rattle.session_core.specs.declared.request.Question.TheVariants.{TypeAt, Diagnostics}
use Rattle.session_core.specs.Doc.{Doc, Docs}

pub record State : Type 0 where
  -- how many lines were taken
  pub taken : ℕ
  -- whether one of them ended the session
  pub ended : Bool
  -- how many jobs the lines have made
  pub made : ℕ
  pub docs : Docs
  -- the open requests, in the order of acceptance
  pub requests : List Request

abbrev pub beginning : State
beginning = record { taken = 0; ended = false; made = 0; docs = []; requests = [] }

-- the open file of this name
abbrev pub doc_of : Docs → List ℕ → Option Doc
doc_of docs file = lookup (bytes_eq file) docs

abbrev pub version_of : Docs → List ℕ → Option ℕ
version_of docs file = option_map (λ doc. doc.version) (doc_of docs file)

abbrev pub is_open : Docs → List ℕ → Bool
is_open docs file = is_some (doc_of docs file)

abbrev pub is_of_file : List ℕ → Request → Bool
is_of_file file request = bytes_eq request.file file

abbrev pub has_id : ℕ → Request → Bool
has_id id request = request.id == id

abbrev pub is_in_use : List Request → ℕ → Bool
is_in_use requests id = list_any (has_id id) requests

-- ---- refusals 5 to 10

-- an edit is of an open file, and its version is greater than the open one
abbrev pub edit_refusal : Option ℕ → ℕ → Option SessionRefusal
edit_refusal None version = Some UnknownFile
edit_refusal (Some have) version = if nat_lt have version then None else Some (StaleVersion have)

-- an opened file is not open, and fewer than 32 are
abbrev pub open_refusal : Docs → List ℕ → Option SessionRefusal
open_refusal docs file =
    if is_open docs file then Some AlreadyOpen
    else (if nat_le 32 (length docs) then Some TooManyFiles
    else None)

-- a closed file is open
abbrev pub close_refusal : Docs → List ℕ → Option SessionRefusal
close_refusal docs file = if is_open docs file then None else Some UnknownFile

-- a request is of an open file, its id is not open, and fewer than 192 requests are
abbrev pub request_refusal : Docs → List Request → ℕ → List ℕ → Option SessionRefusal
request_refusal docs requests id file =
    if not (is_open docs file) then Some UnknownFile
    else (if is_in_use requests id then Some IdInUse
    else (if nat_le 192 (length requests) then Some TooManyRequests
    else None))

-- why the session refuses a message, if it does: the first reason in the order of the refusals' numbers
abbrev pub refusal_of : Docs → List Request → Msg → Option SessionRefusal
refusal_of docs requests (Open file version text) = open_refusal docs file
refusal_of docs requests (Edit file version text) = edit_refusal (version_of docs file) version
refusal_of docs requests (Close file) = close_refusal docs file
refusal_of docs requests (Hover id file place) = request_refusal docs requests id file
refusal_of docs requests (Check id file) = request_refusal docs requests id file
refusal_of docs requests (Cancel id) = None
refusal_of docs requests End = None

-- ---- what a line does

-- The state behind a line, the replies that it writes, and the numbers of the jobs that it closes.
pub record Effect : Type 0 where
  pub state : State
  pub outs : List Out
  pub given_up : List ℕ

-- a line that is no message of the session changes nothing
abbrev pub pass : State → Effect
pass s = record { state = record s { taken = s.taken + 1 }; outs = []; given_up = [] }

-- a refused line writes its reply and changes nothing
abbrev pub refuse : State → Refusal → Effect
refuse s refusal = record { state = record s { taken = s.taken + 1 }; outs = Refused s.taken refusal ∷ []; given_up = [] }

-- a version that waits for its list
abbrev pub new_doc : ℕ → ℕ → List ℕ → Doc
new_doc job version text = record { version = version; text = text; job = job; published = false }

-- a file that is open keeps its place, and another one comes last
abbrev pub put_doc : Docs → List ℕ → Doc → Docs
put_doc docs file doc = insert_entry bytes_eq docs file doc

abbrev pub close_doc : Docs → List ℕ → Docs
close_doc docs file = remove_entry (bytes_eq file) docs

-- the open requests that pass no test are left
abbrev pub close_requests : (Request → Bool) → List Request → List Request
close_requests is_closed requests = filter (λ request. not (is_closed request)) requests

-- each request that is closed before its answer has a reply, in the order of acceptance
abbrev pub cancelled_outs : By → (Request → Bool) → List Request → List Out
cancelled_outs by is_closed requests = map (λ request. Cancelled by request.id) (filter is_closed requests)

abbrev pub request_jobs : (Request → Bool) → List Request → List ℕ
request_jobs is_closed requests = map (λ request. request.job) (filter is_closed requests)

-- the job of a version that is not published
abbrev pub list_jobs : Option Doc → List ℕ
list_jobs None = []
list_jobs (Some doc) = if doc.published then [] else doc.job ∷ []

-- the open requests of the file are closed, and with them the job of its list
abbrev pub leave_file : State → List ℕ → Docs → ℕ → Effect
leave_file s file docs made = record {
  state = record s { taken = s.taken + 1; made = made; docs = docs; requests = close_requests (is_of_file file) s.requests };
  outs = cancelled_outs ByEdit (is_of_file file) s.requests;
  given_up = list_jobs (doc_of s.docs file) ++ request_jobs (is_of_file file) s.requests;
}

-- a request comes last in the order of acceptance
abbrev pub ask : State → ℕ → List ℕ → Question → Effect
ask s id file question = record {
  state = record s { taken = s.taken + 1; made = s.made + 1; requests = s.requests ++ record { job = s.made + 1; id = id; file = file; question = question } ∷ [] };
  outs = [];
  given_up = [];
}

-- what a message does that is not refused
abbrev pub accept : State → Msg → Effect
accept s (Open file version text) = record {
  state = record s { taken = s.taken + 1; made = s.made + 1; docs = put_doc s.docs file (new_doc (s.made + 1) version text) };
  outs = [];
  given_up = [];
}
accept s (Edit file version text) = leave_file s file (put_doc s.docs file (new_doc (s.made + 1) version text)) (s.made + 1)
accept s (Close file) = leave_file s file (close_doc s.docs file) s.made
accept s (Hover id file place) = ask s id file (TypeAt place)
accept s (Check id file) = ask s id file Diagnostics
accept s (Cancel id) = record {
  state = record s { taken = s.taken + 1; requests = close_requests (has_id id) s.requests };
  outs = cancelled_outs ByRequest (has_id id) s.requests;
  given_up = request_jobs (has_id id) s.requests;
}
accept s End = record { state = record s { taken = s.taken + 1; ended = true }; outs = []; given_up = [] }

abbrev pub unless_refused : State → Msg → Option SessionRefusal → Effect
unless_refused s message (Some refusal) = refuse s (OfSession refusal)
unless_refused s message None = accept s message

-- what a line does that reads as this
abbrev pub take_line : State → WireStep → Effect
take_line s (steps.Message message) = unless_refused s message (refusal_of s.docs s.requests message)
take_line s (steps.Refused refusal) = refuse s (OfLine refusal)
take_line s (steps.Reply bytes) = pass s

-- a message, or the refusal in its place, as what a line reads as
abbrev pub read_as : Result Msg LineRefusal → WireStep
read_as (Ok message) = steps.Message message
read_as (Err refusal) = steps.Refused refusal

-- ---- what an answer and a list do

-- the request of this id is answered
abbrev pub close_request : State → ℕ → State
close_request s id = record s { requests = close_requests (has_id id) s.requests }

abbrev pub published_doc : Doc → Doc
published_doc doc = record doc { published = true }

-- the version of this file is published
abbrev pub mark_published : Docs → List ℕ → Docs
mark_published docs file = option_map_or (λ doc. set_value (bytes_eq file) docs (published_doc doc)) (doc_of docs file) docs

abbrev pub publish : State → List ℕ → State
publish s file = record s { docs = mark_published s.docs file }
