-- The session machine: a session is a run of steps over open files, each step with the text that it
-- writes. A line is taken in order, and a version is published at most once. This stage reads `open` of
-- one file and `end`; the steps of requests stand here for the operations that open one.
use Rattle.std.specs.Prelude.{ℕ, ◌+◌, List, [], ◌∷◌, ◌++◌, Bool, true, false, not, ◌&&◌, ◌==◌, nat_lt, if◌then◌else◌, Option, Some, None, option_map, option_and_then, Result, Ok, Err, filter, length, slice_index_or}
use Rattle.std.specs.List.{find, list_any}
use Rattle.std.specs.Str.{bytes_eq}
use Rattle.serial_session.specs.declared.message.Msg.{Msg}
use Rattle.serial_session.specs.declared.message.Msg.TheVariants.{Open, End}
use Rattle.serial_session.specs.declared.message.LineRefusal.{LineRefusal}
use Rattle.serial_session.specs.declared.message.LineRefusal.TheVariants.{UnknownOp}
use Rattle.serial_session.specs.declared.reply.Out.TheVariants.{Listed, Refused}
use Rattle.serial_session.specs.declared.entry.Entry.{Entry}
use Rattle.serial_session.specs.declared.entry.Entry.TheVariants.{Line, Answer, Publish, NoMemoryAnswer, NoMemoryPublish}
use Rattle.serial_session.specs.Message.{read_message}
use Rattle.serial_session.specs.Reply.{reply_text, checked_text, unanswered_text, unpublished_text}
use Rattle.serial_session.specs.Listing.{list_of}

-- an open file
pub record Doc : Type 0 where
  pub file : List ℕ
  pub version : ℕ
  pub text : List ℕ

-- an open request for the list of a file
pub record Request : Type 0 where
  pub id : ℕ
  pub file : List ℕ

pub record State : Type 0 where
  -- how many lines were taken
  pub taken : ℕ
  -- whether one of them ended the session
  pub ended : Bool
  -- the open files, in the order of opening
  pub docs : List Doc
  -- the open requests, in the order of acceptance
  pub requests : List Request
  -- the files whose version is not published
  pub unpublished : List (List ℕ)

-- the state behind a step, and what the step wrote
pub record Turn : Type 0 where
  pub state : State
  pub text : List ℕ

abbrev pub beginning : State
beginning = record { taken = 0; ended = false; docs = []; requests = []; unpublished = [] }

-- ---- a line

-- a refused line writes its reply and changes nothing
abbrev pub refuse : State → LineRefusal → Turn
refuse s refusal = record { state = record s { taken = s.taken + 1 }; text = reply_text (Refused s.taken refusal) }

-- no file is open
abbrev pub has_no_doc : List Doc → Bool
has_no_doc [] = true
has_no_doc (doc ∷ docs) = false

-- an open file comes last in the order of files, and its version is not published; in this stage one file is opened, and a second `open` is refused
abbrev pub open_doc : State → Doc → Turn
open_doc s doc =
    if has_no_doc s.docs then record { state = record s { taken = s.taken + 1; docs = s.docs ++ doc ∷ []; unpublished = s.unpublished ++ doc.file ∷ [] }; text = [] }
    else refuse s UnknownOp

-- what a line does that says this
abbrev pub take_message : State → Result Msg LineRefusal → Turn
take_message s (Err refusal) = refuse s refusal
take_message s (Ok End) = record { state = record s { taken = s.taken + 1; ended = true }; text = [] }
take_message s (Ok (Open file version text)) = open_doc s (record { file = file; version = version; text = text })

abbrev pub line_at : List (List ℕ) → ℕ → List ℕ
line_at lines k = slice_index_or lines k []

-- ---- answers and lists

-- the open file of this name
abbrev pub doc_of : State → List ℕ → Option Doc
doc_of s file = find (λ doc. bytes_eq doc.file file) s.docs

-- the open file of this name, where this is its version and is not published
abbrev pub unpublished_doc : State → List ℕ → ℕ → Option Doc
unpublished_doc s file version =
    if list_any (bytes_eq file) s.unpublished then find (λ doc. bytes_eq doc.file file && (doc.version == version)) s.docs
    else None

abbrev pub publish : State → List ℕ → State
publish s file = record s { unpublished = filter (λ other. not (bytes_eq file other)) s.unpublished }

-- the open request of this number
abbrev pub request_of : State → ℕ → Option Request
request_of s id = find (λ request. request.id == id) s.requests

abbrev pub close_request : State → ℕ → State
close_request s id = record s { requests = filter (λ request. not (request.id == id)) s.requests }

-- ---- steps

-- what a step does, where it is allowed: a line in its turn and behind none that is `end`; an answer while its request is open, of the list of the file's text; a list of a version that is open and not published
abbrev pub step : List (List ℕ) → State → Entry → Option Turn
step lines s (Line k) =
    if (k == s.taken) && (not s.ended && nat_lt k (length lines)) then Some (take_message s (read_message (line_at lines k)))
    else None
step lines s (Answer id) =
    option_and_then (λ request. option_map (λ doc. record { state = close_request s id; text = checked_text id doc.version (list_of doc.text) }) (doc_of s request.file)) (request_of s id)
step lines s (NoMemoryAnswer id) =
    option_and_then (λ request. option_map (λ doc. record { state = close_request s id; text = unanswered_text id }) (doc_of s request.file)) (request_of s id)
step lines s (Publish file version) =
    option_map (λ doc. record { state = publish s file; text = reply_text (Listed file version (list_of doc.text)) }) (unpublished_doc s file version)
step lines s (NoMemoryPublish file version) =
    option_map (λ doc. record { state = publish s file; text = unpublished_text file version }) (unpublished_doc s file version)

-- ---- runs

-- the text of a step stands before that of the steps behind it
abbrev pub written_before : List ℕ → Turn → Turn
written_before text turn = record { state = turn.state; text = text ++ turn.text }

-- the steps of a journal one after another, from a state on
abbrev pub run_from : List (List ℕ) → State → List Entry → Option Turn
run_from lines s [] = Some (record { state = s; text = [] })
run_from lines s (entry ∷ journal) = option_and_then (λ turn. option_map (written_before turn.text) (run_from lines turn.state journal)) (step lines s entry)

abbrev pub run : List (List ℕ) → List Entry → Option Turn
run lines journal = run_from lines beginning journal
