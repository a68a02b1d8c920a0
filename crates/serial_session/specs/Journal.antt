-- Journals of a session: which of them are legal, which leave nothing open, what they write, and the
-- one journal of a session that answers each line before it takes the next.
use Rattle.std.specs.Prelude.{◌≡◌, ℕ, List, [], ◌∷◌, ◌++◌, Bool, true, false, if◌then◌else◌, Result, Ok, Err, map, filter, length}
use Rattle.std.specs.Option.{IsSomeAnd, option_map_or}
use Rattle.std.specs.List.{list_any}
use Rattle.std.specs.Str.{bytes_eq}
use Rattle.edge_io.specs.Line.{lines_of}
use Rattle.serial_session.specs.declared.message.Msg.{Msg}
use Rattle.serial_session.specs.declared.message.Msg.TheVariants.{Open, End}
use Rattle.serial_session.specs.declared.message.LineRefusal.{LineRefusal}
use Rattle.serial_session.specs.declared.entry.Entry.{Entry}
use Rattle.serial_session.specs.declared.entry.Entry.TheVariants.{Line, Answer, Publish}
use Rattle.serial_session.specs.Message.{read_message}
use Rattle.serial_session.specs.Machine.{State, beginning, take_message, run}

-- ---- the lines of a session

abbrev pub says_end : Result Msg LineRefusal → Bool
says_end (Ok End) = true
says_end (Ok (Open file version text)) = false
says_end (Err refusal) = false

-- the line ends the session
abbrev pub is_end_line : List ℕ → Bool
is_end_line line = says_end (read_message line)

-- nothing counts behind the first line that ends the session
abbrev pub until_end : List (List ℕ) → List (List ℕ)
until_end [] = []
until_end (line ∷ lines) = if is_end_line line then line ∷ [] else line ∷ until_end lines

-- the lines of a session of these bytes, `at_end` saying whether the input ends behind them
abbrev pub session_lines : Bool → List ℕ → List (List ℕ)
session_lines at_end bytes = until_end (lines_of at_end bytes)

-- one of the lines ends the session
abbrev pub has_end : List (List ℕ) → Bool
has_end lines = list_any is_end_line lines

-- ---- journals

-- the journal is a run of the machine, and its lines are all the lines, once each, in order
abbrev pub Legal : List (List ℕ) → List Entry → Type 0
Legal lines journal = IsSomeAnd (run lines journal) (λ turn. turn.state.taken ≡ length lines)

-- it leaves no request open and no version unpublished
pub record IsSettled (lines : List (List ℕ)) (state : State) : Type 0 where
  pub taken : state.taken ≡ length lines
  pub answered : state.requests ≡ []
  pub published : state.unpublished ≡ []

abbrev pub Settled : List (List ℕ) → List Entry → Type 0
Settled lines journal = IsSomeAnd (run lines journal) (λ turn. IsSettled lines turn.state)

-- what a journal writes: the texts of its steps, joined in order
abbrev pub text_of : List (List ℕ) → List Entry → List ℕ
text_of lines journal = option_map_or (λ turn. turn.text) (run lines journal) []

-- ---- the serial journal

-- the entries that answer what is open in a state: each request, and then each unpublished version, in the order of files
abbrev pub settling : State → List Entry
settling s =
    map (λ request. Answer request.id) s.requests
    ++ map (λ doc. Publish doc.file doc.version) (filter (λ doc. list_any (bytes_eq doc.file) s.unpublished) s.docs)

abbrev pub settled : State → State
settled s = record s { requests = []; unpublished = [] }

-- the state behind a line and the answers to what it opened
abbrev pub settled_behind : State → List ℕ → State
settled_behind s line = settled (take_message s (read_message line)).state

abbrev pub serial_from : State → List (List ℕ) → List Entry
serial_from s [] = []
serial_from s (line ∷ lines) = Line s.taken ∷ (settling (take_message s (read_message line)).state ++ serial_from (settled_behind s line) lines)

-- the journal that answers all that a line opened before it takes the next line
abbrev pub serial : List (List ℕ) → List Entry
serial lines = serial_from beginning lines
