-- Journals of a session: which are legal and what they write, which leave nothing open, and the one
-- journal of a session that answers each line before it takes the next.
-- Its terms are those of the Language Server Protocol 3.17, "Text Document Synchronization" and "Request Message".
use Rattle.std.specs.Prelude.{◌≡◌, ℕ, List, [], ◌∷◌, ◌++◌, Bool, true, false, not, if◌then◌else◌, Option, Some, map, filter, Contains}
use Rattle.std.specs.List.{list_all}
use Rattle.std.specs.Map.{values_of}
use Rattle.py_base.specs.declared.diag.Diag.{Diag}
use Rattle.py_base.specs.declared.span.Place.{Place}
use Rattle.wire_json.specs.declared.message.Msg.{Msg}
use Rattle.wire_json.specs.declared.message.Msg.TheVariants.{Open, Edit, Close, Hover, Check, Cancel, End}
use Rattle.wire_json.specs.declared.message.WireStep.{WireStep}
use Rattle.wire_json.specs.declared.message.WireStep.TheVariants.{Message, Refused, Reply}
use Rattle.wire_json.specs.declared.reply.Out.{Out}
use Rattle.wire_json.specs.declared.reply.Out.TheVariants.{Listed, Hovered, Checked, Unanswered, Unlisted}
use Rattle.session_core.specs.declared.entry.Entry.{Entry}
use Rattle.session_core.specs.declared.entry.Entry.TheVariants.{Line, Answer, Publish, NoMemoryAnswer, NoMemoryPublish}
use Rattle.session_core.specs.declared.request.Request.{Request}
use Rattle.session_core.specs.declared.request.Question.{Question}
use Rattle.session_core.specs.declared.request.Question.TheVariants.{TypeAt, Diagnostics}
use Rattle.session_core.specs.Doc.{Doc, Docs}
use Rattle.session_core.specs.Machine.{State, beginning, doc_of, take_line, close_request, published_doc, publish}

-- ---- lines

abbrev pub is_end : Msg → Bool
is_end (Open file version text) = false
is_end (Edit file version text) = false
is_end (Close file) = false
is_end (Hover id file place) = false
is_end (Check id file) = false
is_end (Cancel id) = false
is_end End = true

-- the line ends the session
abbrev pub says_end : WireStep → Bool
says_end (Message message) = is_end message
says_end (Refused refusal) = false
says_end (Reply bytes) = false

-- nothing counts behind the first line that ends the session
abbrev pub until_end : List WireStep → List WireStep
until_end [] = []
until_end (line ∷ lines) = if says_end line then line ∷ [] else line ∷ until_end lines

-- ---- steps

-- an open request of this id, and the open file that it is about
pub record IsAsked (s : State) (id : ℕ) (request : Request) (doc : Doc) : Type 0 where
  pub is_open : Contains s.requests request
  pub id_is : request.id ≡ id
  pub doc_is : doc_of s.docs request.file ≡ Some doc

-- the file is open in this version, whose list waits to be published
pub record IsUnpublished (s : State) (file : List ℕ) (version : ℕ) (doc : Doc) : Type 0 where
  pub is_open : Contains s.docs (file, doc)
  pub version_is : doc.version ≡ version
  pub waits : doc.published ≡ false

-- the line comes in its turn, behind none that ended the session; it is what it reads as that decides
pub record TakesLine (s : State) (k : ℕ) (lines : List WireStep) (outs : List Out) (t : State) : Type 0 where
  pub line : WireStep
  pub lines_are : lines ≡ line ∷ []
  pub in_turn : k ≡ s.taken
  pub going : s.ended ≡ false
  pub writes : outs ≡ (take_line s line).outs
  pub leads : t ≡ (take_line s line).state

-- a worker found no memory for the answer
pub record LeavesUnanswered (s : State) (id : ℕ) (outs : List Out) (t : State) : Type 0 where
  pub request : Request
  pub doc : Doc
  pub asked : IsAsked s id request doc
  pub writes : outs ≡ Unanswered id ∷ []
  pub leads : t ≡ close_request s id

-- a worker found no memory for the list
pub record LeavesUnlisted (s : State) (file : List ℕ) (version : ℕ) (outs : List Out) (t : State) : Type 0 where
  pub doc : Doc
  pub waiting : IsUnpublished s file version doc
  pub writes : outs ≡ Unlisted file version ∷ []
  pub leads : t ≡ publish s file

-- a step first, which takes some lines, writes some replies and leads to a state, and from there the rest of a run
pub record Follows (First : List WireStep → List Out → State → Type 0) (Rest : State → List WireStep → List Out → Type 0) (lines : List WireStep) (outs : List Out) : Type 0 where
  pub state : State
  pub first_lines : List WireStep
  pub first_outs : List Out
  pub first : First first_lines first_outs state
  pub rest_lines : List WireStep
  pub rest_outs : List Out
  pub rest : Rest state rest_lines rest_outs
  pub lines_are : lines ≡ first_lines ++ rest_lines
  pub outs_are : outs ≡ first_outs ++ rest_outs

-- no request is open, and each version's list is published
pub record IsAtRest (s : State) : Type 0 where
  pub answered : s.requests ≡ []
  pub published : list_all (λ doc. doc.published) (values_of s.docs) ≡ true

-- What a list and a hover of a text are is a parameter, as two relations. In a run both stand only in what is claimed of a
-- reply, so relations that hold of nothing make no reply legal. What is assumed of them is that a text has one list and a place
-- of it one hover, and of a finished job that it holds them; an analyser owes the one, and who makes the job the other.
module _ (HasList : List ℕ → List Diag → Type 0) (HasHover : List ℕ → Place → Option (List ℕ) → Type 0) where
  -- the reply that answers the question with what the file's text has
  abbrev pub IsReply : Doc → ℕ → Question → Out → Type 0
  IsReply doc id (TypeAt place) out = (type : Option (List ℕ)) × HasHover doc.text place type × (out ≡ Hovered id type doc.version)
  IsReply doc id Diagnostics out = (list : List Diag) × HasList doc.text list × (out ≡ Checked id list doc.version)

  pub record AnswersRequest (s : State) (id : ℕ) (outs : List Out) (t : State) : Type 0 where
    pub request : Request
    pub doc : Doc
    pub asked : IsAsked s id request doc
    pub out : Out
    pub reply : IsReply doc id request.question out
    pub writes : outs ≡ out ∷ []
    pub leads : t ≡ close_request s id

  pub record PublishesList (s : State) (file : List ℕ) (version : ℕ) (outs : List Out) (t : State) : Type 0 where
    pub doc : Doc
    pub waiting : IsUnpublished s file version doc
    pub list : List Diag
    pub list_is : HasList doc.text list
    pub writes : outs ≡ Listed file list version ∷ []
    pub leads : t ≡ publish s file

  -- The machine may take this step from a state: the lines that it takes (one, or none), its replies, and the state behind it.
  abbrev pub Step : State → Entry → List WireStep → List Out → State → Type 0
  Step s (Line k) lines outs t = TakesLine s k lines outs t
  Step s (Answer id) lines outs t = (lines ≡ []) × AnswersRequest s id outs t
  Step s (Publish file version) lines outs t = (lines ≡ []) × PublishesList s file version outs t
  Step s (NoMemoryAnswer id) lines outs t = (lines ≡ []) × LeavesUnanswered s id outs t
  Step s (NoMemoryPublish file version) lines outs t = (lines ≡ []) × LeavesUnlisted s file version outs t

  -- The machine may take the steps of a journal one after another: together they take these lines, in order, and write these replies.
  abbrev pub Run : State → List Entry → List WireStep → List Out → State → Type 0
  Run s [] lines outs t = (lines ≡ []) × (outs ≡ []) × (t ≡ s)
  Run s (entry ∷ journal) lines outs t = Follows (Step s entry) (λ mid rest more. Run mid journal rest more t) lines outs

  -- The journal is a run of the machine from its beginning. It takes all the lines, once each, in order, and writes these replies.
  pub record Legal (lines : List WireStep) (journal : List Entry) (outs : List Out) : Type 0 where
    pub state : State
    pub run : Run beginning journal lines outs state

  -- the run of the journal leaves nothing open and nothing unpublished
  pub record Settled (lines : List WireStep) (journal : List Entry) (outs : List Out) : Type 0 where
    pub state : State
    pub run : Run beginning journal lines outs state
    pub at_rest : IsAtRest state

-- ---- the serial journal

abbrev pub unpublished : Docs → Docs
unpublished docs = filter (λ entry. not entry.1.published) docs

-- the entries that answer what is open: the requests, and then the versions that wait, in the order of files
abbrev pub settling : State → List Entry
settling s = map (λ request. Answer request.id) s.requests ++ map (λ entry. Publish entry.0 entry.1.version) (unpublished s.docs)

-- the state behind them
abbrev pub settled : State → State
settled s = record s { docs = map (λ entry. (entry.0, published_doc entry.1)) s.docs; requests = [] }

abbrev pub serial_from : State → List WireStep → List Entry
serial_from s [] = []
serial_from s (line ∷ lines) = Line s.taken ∷ (settling (take_line s line).state ++ serial_from (settled (take_line s line).state) lines)

-- the one journal that answers all that a line opened before it takes the next
abbrev pub serial : List WireStep → List Entry
serial lines = serial_from beginning lines
