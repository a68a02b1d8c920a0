-- The steps of a line are the machine's, and those that the serial journal has.
use Rattle.std.proofs.Common.{◌≡◌, ◌∙◌, ℕ, ◌+◌, ◌<◌, Bool, true, false, not, Option, Some, None, Result, Ok, Err, List, [], ◌∷◌, ◌++◌, length, refl, ap, sym, subst, append_assoc}
use Rattle.std.proofs.lemmas.List.{append-nil}
use Rattle.std.proofs.lemmas.Bool.{eq-eqb, lt-ltb}
use Rattle.std.proofs.lemmas.Slice.Eq.{bytes_eq-Decides}
use Rattle.std.specs.Prelude.{option_and_then, option_map, filter}
use Rattle.std.specs.List.{list_any}
use Rattle.std.specs.Str.{bytes_eq}
use Rattle.serial_session.specs.declared.message.Msg.{Msg}
use Rattle.serial_session.specs.declared.message.Msg.TheVariants.{Open, End}
use Rattle.serial_session.specs.declared.message.LineRefusal.{LineRefusal}
use Rattle.serial_session.specs.declared.reply.Out.TheVariants.{Listed}
use Rattle.serial_session.specs.declared.entry.Entry.{Entry}
use Rattle.serial_session.specs.declared.entry.Entry.TheVariants.{Line, Publish}
use Rattle.serial_session.specs.Message.{read_message}
use Rattle.serial_session.specs.Reply.{reply_text}
use Rattle.serial_session.specs.Listing.{list_of}
use Rattle.serial_session.specs.Machine.{Doc, State, Turn, has_no_doc, take_message, line_at, step, written_before, run_from}
use Rattle.serial_session.specs.Journal.{says_end, serial_from}
use Rattle.serial_session.specs.Steps.{Step, step_of, steps_of, entries_of, texts_of}

abbrev pub turn : State → List ℕ → Turn
turn s text = record { state = s; text = text }

-- nothing is open in the session but these files
abbrev pub at_rest : ℕ → Bool → List Doc → State
at_rest k ended docs = record { taken = k; ended = ended; docs = docs; requests = []; unpublished = [] }

-- the files that are open behind a line that says this
abbrev pub docs_behind : List Doc → Result Msg LineRefusal → List Doc
docs_behind docs (Err refusal) = docs
docs_behind docs (Ok End) = docs
docs_behind [] (Ok (Open file version text)) = record { file = file; version = version; text = text } ∷ []
docs_behind (doc ∷ docs) (Ok (Open file version text)) = doc ∷ docs

-- ---- runs

-- what is written before two steps
written_before-append : (xs ys : List ℕ) (o : Option Turn) → option_map (written_before xs) (option_map (written_before ys) o) ≡ option_map (written_before (xs ++ ys)) o
written_before-append xs ys None = refl
written_before-append xs ys (Some t) = ap (λ text. Some (turn t.state text)) (sym (append_assoc xs ys t.text))

then_more : List (List ℕ) → List Entry → Turn → Option Turn
then_more lines ys t = option_map (written_before t.text) (run_from lines t.state ys)

pub run_from-append : (lines : List (List ℕ)) (s : State) (xs ys : List Entry) → run_from lines s (xs ++ ys) ≡ option_and_then (λ t. option_map (written_before t.text) (run_from lines t.state ys)) (run_from lines s xs)
run_from-append lines s [] ys = sym (nothing_before (run_from lines s ys))
  where
    nothing_before : (o : Option Turn) → option_map (written_before []) o ≡ o
    nothing_before None = refl
    nothing_before (Some t) = refl
run_from-append lines s (x ∷ xs) ys = elim (step lines s x) as (λ o. option_and_then (λ t. option_map (written_before t.text) (run_from lines t.state (xs ++ ys))) o ≡ option_and_then (λ t. option_map (written_before t.text) (run_from lines t.state ys)) (option_and_then (λ t. option_map (written_before t.text) (run_from lines t.state xs)) o)) [
  | None ↦ refl
  | Some t ↦ ap (option_map (written_before t.text)) (run_from-append lines t.state xs ys) ∙ regroup t.text (run_from lines t.state xs)
]
  where
    regroup : (text : List ℕ) (o : Option Turn) → option_map (written_before text) (option_and_then (λ t. option_map (written_before t.text) (run_from lines t.state ys)) o) ≡ option_and_then (λ t. option_map (written_before t.text) (run_from lines t.state ys)) (option_map (written_before text) o)
    regroup text None = refl
    regroup text (Some t) = written_before-append text t.text (run_from lines t.state ys)

-- a run goes on behind its first part
pub run_goes_on : (lines : List (List ℕ)) (s t u : State) (xs ys : List Entry) (text more : List ℕ) → run_from lines s xs ≡ Some (turn t text) → run_from lines t ys ≡ Some (turn u more) → run_from lines s (xs ++ ys) ≡ Some (turn u (text ++ more))
run_goes_on lines s t u xs ys text more first rest = run_from-append lines s xs ys ∙ rw (first, rest) refl

-- ---- the steps of a line

takes_line : (lines : List (List ℕ)) (k : ℕ) (docs : List Doc) (said : Result Msg LineRefusal) → k < length lines → read_message (line_at lines k) ≡ said → step lines (at_rest k false docs) (Line k) ≡ Some (take_message (at_rest k false docs) said)
takes_line lines k docs said within is = rw (eq-eqb k k refl, lt-ltb k (length lines) within, is) refl

same_bytes : (xs : List ℕ) → bytes_eq xs xs ≡ true
same_bytes xs = (bytes_eq-Decides xs xs).1 refl

abbrev one_doc : List ℕ → ℕ → List ℕ → List Doc
one_doc file version text = record { file = file; version = version; text = text } ∷ []

-- the state in which the version of the one file is not published
abbrev opened : ℕ → List ℕ → ℕ → List ℕ → State
opened k file version text = record { taken = k; ended = false; docs = one_doc file version text; requests = []; unpublished = file ∷ [] }

publishes : (lines : List (List ℕ)) (k version : ℕ) (file text : List ℕ) → step lines (opened k file version text) (Publish file version) ≡ Some (turn (at_rest k false (one_doc file version text)) (reply_text (Listed file version (list_of text))))
publishes lines k version file text = rw (same_bytes file, eq-eqb version version refl) refl

one_step : (lines : List (List ℕ)) (s : State) (entry : Entry) (t : Turn) → step lines s entry ≡ Some t → run_from lines s (entry ∷ []) ≡ Some t
one_step lines s entry t is = rw is (ap (λ text. Some (turn t.state text)) (append-nil t.text))

-- the steps of a line run, from a session at rest to one at rest
pub steps_run : (lines : List (List ℕ)) (k : ℕ) (docs : List Doc) (said : Result Msg LineRefusal) → k < length lines → read_message (line_at lines k) ≡ said
    → run_from lines (at_rest k false docs) (entries_of (steps_of k (not (has_no_doc docs)) said)) ≡ Some (turn (at_rest (k + 1) (says_end said) (docs_behind docs said)) (texts_of (steps_of k (not (has_no_doc docs)) said)))
steps_run lines k docs (Err refusal) within is = rw (takes_line lines k docs (Err refusal) within is) refl
steps_run lines k docs (Ok End) within is = rw (takes_line lines k docs (Ok End) within is) refl
steps_run lines k (doc ∷ docs) (Ok (Open file version text)) within is = rw (takes_line lines k (doc ∷ docs) (Ok (Open file version text)) within is) refl
steps_run lines k [] (Ok (Open file version text)) within is = rw (takes_line lines k [] (Ok (Open file version text)) within is, publishes lines (k + 1) version file text) refl

-- so do the first of them, and the line is among these
abbrev RunsFirst : List (List ℕ) → ℕ → List Doc → List Step → Type 0
RunsFirst lines k docs done = (t : State) × (run_from lines (at_rest k false docs) (entries_of done) ≡ Some (turn t (texts_of done))) × (t.taken ≡ k + 1)

one_runs : (lines : List (List ℕ)) (k : ℕ) (docs : List Doc) (said : Result Msg LineRefusal) (first a : Step) → k < length lines → read_message (line_at lines k) ≡ said
    → first ≡ step_of (Line k) (take_message (at_rest k false docs) said).text → (take_message (at_rest k false docs) said).state.taken ≡ k + 1 → first ≡ a → RunsFirst lines k docs (a ∷ [])
one_runs lines k docs said first a within is first_is taken same =
    subst (λ x. RunsFirst lines k docs (x ∷ [])) (sym first_is ∙ same) ((take_message (at_rest k false docs) said).state, rw (takes_line lines k docs said within is) refl, taken)

pub first_run : (lines : List (List ℕ)) (k : ℕ) (docs : List Doc) (said : Result Msg LineRefusal) (a : Step) (done undone : List Step) → k < length lines → read_message (line_at lines k) ≡ said
    → steps_of k (not (has_no_doc docs)) said ≡ a ∷ (done ++ undone) → RunsFirst lines k docs (a ∷ done)
first_run lines k docs (Err refusal) a [] undone within is steps = one_runs lines k docs (Err refusal) _ a within is refl refl (cc)
first_run lines k docs (Err refusal) a (b ∷ done) undone within is steps = cc
first_run lines k docs (Ok End) a [] undone within is steps = one_runs lines k docs (Ok End) _ a within is refl refl (cc)
first_run lines k docs (Ok End) a (b ∷ done) undone within is steps = cc
first_run lines k (doc ∷ docs) (Ok (Open file version text)) a [] undone within is steps = one_runs lines k (doc ∷ docs) (Ok (Open file version text)) _ a within is refl refl (cc)
first_run lines k (doc ∷ docs) (Ok (Open file version text)) a (b ∷ done) undone within is steps = cc
first_run lines k [] (Ok (Open file version text)) a [] undone within is steps = one_runs lines k [] (Ok (Open file version text)) _ a within is refl refl (cc)
first_run lines k [] (Ok (Open file version text)) a (b ∷ []) undone within is steps =
    let e : step_of (Line k) [] ≡ a = cc in
    let f : step_of (Publish file version) (reply_text (Listed file version (list_of text))) ≡ b = cc in
    subst (λ x. RunsFirst lines k [] (x ∷ b ∷ [])) e (subst (λ y. RunsFirst lines k [] (step_of (Line k) [] ∷ y ∷ [])) f
    (at_rest (k + 1) false (one_doc file version text), steps_run lines k [] (Ok (Open file version text)) within is, refl))
first_run lines k [] (Ok (Open file version text)) a (b ∷ c ∷ done) undone within is steps = cc

-- nothing is unpublished in a session at rest
none_unpublished : (docs : List Doc) → filter (λ doc. list_any (bytes_eq doc.file) []) docs ≡ []
none_unpublished [] = refl
none_unpublished (doc ∷ docs) = none_unpublished docs

-- the serial journal has just these steps
pub serial_steps : (k : ℕ) (docs : List Doc) (said : Result Msg LineRefusal) (line : List ℕ) (more : List (List ℕ)) → read_message line ≡ said
    → serial_from (at_rest k false docs) (line ∷ more) ≡ entries_of (steps_of k (not (has_no_doc docs)) said) ++ serial_from (at_rest (k + 1) (says_end said) (docs_behind docs said)) more
serial_steps k docs (Err refusal) line more is = rw (is, none_unpublished docs) refl
serial_steps k docs (Ok End) line more is = rw (is, none_unpublished docs) refl
serial_steps k (doc ∷ docs) (Ok (Open file version text)) line more is = rw (is, none_unpublished docs) refl
serial_steps k [] (Ok (Open file version text)) line more is = rw (is, same_bytes file) refl
