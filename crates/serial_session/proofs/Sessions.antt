-- What a session has done so far, and when it stops.
use Rattle.std.proofs.Common.{◌≡◌, ◌∙◌, ◌⊎◌, inl, inr, ℕ, ◌+◌, ◌-◌, ◌^◌, ◌<◌, ◌≤◌, Bool, true, false, not, Option, Some, None, Result, Ok, Err, List, [], ◌∷◌, ◌++◌, length, refl, ap, sym, append_assoc, subst, arith, length-append}
use Rattle.std.proofs.lemmas.List.{append-nil}
use Rattle.std.proofs.Math.Seq.{get_or-append_seam}
use Rattle.std.specs.Option.{IsSomeAnd, option_map_or}
use Rattle.edge_io.specs.Stream.{before, behind}
use Rattle.edge_io.specs.declared.line.Line.{Line}
use Rattle.edge_io.specs.declared.reader.LineFault.TheVariants as LineFault
use Rattle.edge_io.specs.Line.{lines_of}
use Rattle.edge_io.specs.Reading.{Reading}
use Rattle.edge_io.specs.Cutting.{Follows, IsCut, IsNew, Answers}
use Rattle.serial_session.specs.declared.message.Msg.{Msg}
use Rattle.serial_session.specs.declared.message.Msg.TheVariants.{Open, End}
use Rattle.serial_session.specs.declared.message.LineRefusal.{LineRefusal}
use Rattle.serial_session.specs.declared.entry.Entry.{Entry}
use Rattle.serial_session.specs.declared.status.Status.{Status}
use Rattle.serial_session.specs.declared.status.Status.TheVariants.{Done, ReadFault, WriteFault, NoMemory, TooLong}
use Rattle.serial_session.specs.Message.{read_message}
use Rattle.serial_session.specs.Machine.{Doc, beginning, has_no_doc, line_at, run}
use Rattle.serial_session.specs.Journal.{is_end_line, until_end, session_lines, has_end, IsSettled, serial_from, serial}
use Rattle.serial_session.specs.Steps.{Step, steps_of, opens, entries_of, texts_of, Partly}
use Rattle.serial_session.specs.Served.{IsWhole, IsStopped, IsDone, IsBroken, IsTooLong, Outcome, Account}
use Rattle.serial_session.proofs.Streams.{before-before, before-nil, behind-behind, behind-nil}
use Rattle.serial_session.proofs.Partials.{entries_of-append}
use Rattle.serial_session.proofs.Runs.{turn, at_rest, docs_behind, run_goes_on, steps_run, first_run, serial_steps}
use Rattle.serial_session.proofs.Ends.{until_end-going, until_end-at, until_end-first, has_end-more}

-- these lines were handed out, none of which ends the session, and the reader is at this place behind them
pub record Handed (lines : List (List ℕ)) (reader : Reading) (left left' : Option (List ℕ)) : Type 0 where
  pub bytes : List ℕ
  pub taken_is : left ≡ before bytes left'
  pub cut : IsCut lines_of reader bytes lines

-- the lines were taken, and all that they opened is answered
pub record SoFar (k : ℕ) (reader : Reading) (journal : List Entry) (opened : Bool) (left left' w w' : Option (List ℕ)) : Type 0 where
  pub lines : List (List ℕ)
  pub handed : Handed lines reader left left'
  pub docs : List Doc
  pub text : List ℕ
  pub going : (more : List (List ℕ)) → until_end (lines ++ more) ≡ lines ++ until_end more
  pub no_end : has_end lines ≡ false
  pub ran : (more : List (List ℕ)) → run (lines ++ more) journal ≡ Some (turn (at_rest k false docs) text)
  pub serial_is : (more : List (List ℕ)) → serial (lines ++ more) ≡ journal ++ serial_from (at_rest k false docs) more
  pub number : length lines ≡ k
  pub opened_is : opened ≡ not (has_no_doc docs)
  pub written_is : w' ≡ behind w text

pub begins : (reader : Reading) (left w : Option (List ℕ)) → IsNew reader (2 ^ 40) → SoFar 0 reader [] false left left w w
begins reader left w is = record {
  lines = [];
  handed = record {
    bytes = [];
    taken_is = sym (before-nil left);
    cut = record { counted = is.taken; few = rw is.waiting (omega arith); cut = λ e more _. rw is.waiting refl };
  };
  docs = [];
  text = [];
  going = λ more. refl;
  no_end = refl;
  ran = λ more. refl;
  serial_is = λ more. refl;
  number = refl;
  opened_is = refl;
  written_is = sym (behind-nil w);
}

-- ---- a line is handed out

takes_on : (bytes more : List ℕ) (l m r : Option (List ℕ)) → l ≡ before bytes m → m ≡ before more r → l ≡ before (bytes ++ more) r
takes_on bytes more l m r first second = first ∙ (ap (before bytes) second ∙ before-before bytes more r)

pub hands_line : (lines : List (List ℕ)) (line : Line) (a b : Reading) (l m r : Option (List ℕ)) → (h : Handed lines a l m) → (answer : Answers lines_of (Ok (Some line)) a b m r) → Handed (lines ++ (answer.cuts h.bytes lines h.cut).0 ∷ []) b l r
hands_line lines line a b l m r h answer = record {
  bytes = h.bytes ++ answer.more;
  taken_is = takes_on h.bytes answer.more l m r h.taken_is answer.taken_is;
  cut = (answer.cuts h.bytes lines h.cut).2;
}

-- ---- the steps of a line are taken

at_number : (lines more : List (List ℕ)) (line : List ℕ) (k : ℕ) → length lines ≡ k → line_at (lines ++ line ∷ more) k ≡ line
at_number lines more line k is = subst (λ n. line_at (lines ++ line ∷ more) n ≡ line) is (get_or-append_seam lines line more [])

below : (lines more : List (List ℕ)) (line : List ℕ) (k : ℕ) → length lines ≡ k → k < length (lines ++ line ∷ more)
below lines more line k is = omega (arith, length-append lines (line ∷ more))

one_more : (lines more : List (List ℕ)) (line : List ℕ) → (lines ++ line ∷ []) ++ more ≡ lines ++ line ∷ more
one_more lines more line = append_assoc lines (line ∷ []) more

-- the file that is open behind a line
opened_behind : (docs : List Doc) (said : Result Msg LineRefusal) → opens (not (has_no_doc docs)) said ≡ not (has_no_doc (docs_behind docs said))
opened_behind docs (Err refusal) = refl
opened_behind docs (Ok End) = refl
opened_behind [] (Ok (Open file version text)) = refl
opened_behind (doc ∷ docs) (Ok (Open file version text)) = refl

-- the run over the lines so far and this one
ran_more : (k : ℕ) (lines more : List (List ℕ)) (line : List ℕ) (docs : List Doc) (journal : List Entry) (text : List ℕ) → length lines ≡ k
    → ((ls : List (List ℕ)) → run (lines ++ ls) journal ≡ Some (turn (at_rest k false docs) text))
    → run (lines ++ line ∷ more) (journal ++ entries_of (steps_of k (not (has_no_doc docs)) (read_message line)))
    ≡ Some (turn (at_rest (k + 1) (is_end_line line) (docs_behind docs (read_message line))) (text ++ texts_of (steps_of k (not (has_no_doc docs)) (read_message line))))
ran_more k lines more line docs journal text number ran =
    run_goes_on (lines ++ line ∷ more) beginning (at_rest k false docs) _ journal _ text _ (ran (line ∷ more))
    (steps_run (lines ++ line ∷ more) k docs (read_message line) (below lines more line k number) (ap read_message (at_number lines more line k number)))

serial_more : (k : ℕ) (lines more : List (List ℕ)) (line : List ℕ) (docs : List Doc) (journal : List Entry)
    → ((ls : List (List ℕ)) → serial (lines ++ ls) ≡ journal ++ serial_from (at_rest k false docs) ls)
    → serial (lines ++ line ∷ more) ≡ (journal ++ entries_of (steps_of k (not (has_no_doc docs)) (read_message line))) ++ serial_from (at_rest (k + 1) (is_end_line line) (docs_behind docs (read_message line))) more
serial_more k lines more line docs journal serials =
    serials (line ∷ more) ∙ (ap (λ es. journal ++ es) (serial_steps k docs (read_message line) line more refl) ∙ sym (append_assoc journal _ _))

-- what this line adds is taken, and it doesn't end the session
pub goes_on : (k : ℕ) (line : List ℕ) (a b : Reading) (j j' : List Entry) (o o' : Bool) (l m r w v u : Option (List ℕ)) → (s : SoFar k a j o l m w v) → Handed (s.lines ++ line ∷ []) b l r
    → is_end_line line ≡ false → j' ≡ j ++ entries_of (steps_of k o (read_message line)) → u ≡ behind v (texts_of (steps_of k o (read_message line))) → o' ≡ opens o (read_message line)
    → SoFar (k + 1) b j' o' l r w u
goes_on k line a b j j' o o' l m r w v u s handed going noted put opened =
    let steps = steps_of k (not (has_no_doc s.docs)) (read_message line) in
    let same : steps_of k o (read_message line) ≡ steps = ap (λ x. steps_of k x (read_message line)) s.opened_is in
    let j_is : j' ≡ j ++ entries_of steps = noted ∙ ap (λ xs. j ++ entries_of xs) same in
    record {
      lines = s.lines ++ line ∷ [];
      handed = handed;
      docs = docs_behind s.docs (read_message line);
      text = s.text ++ texts_of steps;
      going = λ more. ap until_end (one_more s.lines more line) ∙ (s.going (line ∷ more) ∙ (ap (λ ls. s.lines ++ ls) (until_end-going line more going) ∙ sym (one_more s.lines (until_end more) line)));
      no_end = has_end-more s.lines line s.no_end ∙ going;
      ran = λ more. subst (λ ls. run ls j' ≡ Some (turn (at_rest (k + 1) false (docs_behind s.docs (read_message line))) (s.text ++ texts_of steps))) (sym (one_more s.lines more line))
          (ap (run (s.lines ++ line ∷ more)) j_is ∙ (ran_more k s.lines more line s.docs j s.text s.number s.ran ∙ ap (λ e. Some (turn (at_rest (k + 1) e (docs_behind s.docs (read_message line))) (s.text ++ texts_of steps))) going));
      serial_is = λ more. ap serial (one_more s.lines more line) ∙ (serial_more k s.lines more line s.docs j s.serial_is
          ∙ (ap (λ e. (j ++ entries_of steps) ++ serial_from (at_rest (k + 1) e (docs_behind s.docs (read_message line))) more) going ∙ ap (λ es. es ++ serial_from (at_rest (k + 1) false (docs_behind s.docs (read_message line))) more) (sym j_is)));
      number = (let n = s.number in length-append s.lines (line ∷ []) ∙ omega arith);
      opened_is = opened ∙ (ap (λ x. opens x (read_message line)) s.opened_is ∙ opened_behind s.docs (read_message line));
      written_is = put ∙ (ap (λ x. behind x (texts_of (steps_of k o (read_message line)))) s.written_is ∙ (behind-behind w s.text (texts_of (steps_of k o (read_message line))) ∙ ap (λ xs. behind w (s.text ++ texts_of xs)) same));
    }

-- ---- the session stops

-- the lines so far are in the journal, and what was put is its text
so_far_whole : (k : ℕ) (a : Reading) (j : List Entry) (o : Bool) (l m w v : Option (List ℕ)) → (s : SoFar k a j o l m w v) → IsWhole s.lines j s.text
so_far_whole k a j o l m w v s =
    let ran : run s.lines j ≡ Some (turn (at_rest k false s.docs) s.text) = subst (λ ls. run ls j ≡ Some (turn (at_rest k false s.docs) s.text)) (append-nil s.lines) (s.ran []) in
    record {
      legal = subst (λ o. IsSomeAnd o (λ t. t.state.taken ≡ length s.lines)) (sym ran) (sym s.number);
      text = sym (ap (λ o. option_map_or (λ t. t.text) o []) ran);
    }

-- the journal so far is the serial one
so_far_serial : (k : ℕ) (a : Reading) (j : List Entry) (o : Bool) (l m w v : Option (List ℕ)) → (s : SoFar k a j o l m w v) → j ≡ serial s.lines
so_far_serial k a j o l m w v s = sym (ap serial (sym (append-nil s.lines)) ∙ (s.serial_is [] ∙ append-nil j))

so_far_stopped : (k : ℕ) (a : Reading) (j : List Entry) (o : Bool) (l m w v : Option (List ℕ)) → (s : SoFar k a j o l m w v) → IsStopped s.lines j s.text
so_far_stopped k a j o l m w v s = record { whole = so_far_whole k a j o l m w v s; serial_is = so_far_serial k a j o l m w v s; going = s.no_end }

-- none of the lines so far ends the session
all_going : (k : ℕ) (a : Reading) (j : List Entry) (o : Bool) (l m w v : Option (List ℕ)) → (s : SoFar k a j o l m w v) → until_end s.lines ≡ s.lines
all_going k a j o l m w v s = ap until_end (sym (append-nil s.lines)) ∙ (s.going [] ∙ append-nil s.lines)

-- the source failed
pub stops_read_fault : (k : ℕ) (a b : Reading) (j : List Entry) (o : Bool) (l m r w v : Option (List ℕ)) → SoFar k a j o l m w v → Answers lines_of (Err LineFault.ReadFault) a b m r → Account ReadFault j b.taken b.at_end l r w v
stops_read_fault k a b j o l m r w v s answer =
    let begun = (answer.cuts s.handed.bytes s.lines s.handed.cut).0 in
    let bytes = s.handed.bytes ++ answer.more in
    record {
      bytes = bytes;
      taken_is = takes_on s.handed.bytes answer.more l m r s.handed.taken_is answer.taken_is;
      counted = sym begun.counted;
      put = s.text;
      written_is = s.written_is;
      outcome = subst (λ e. Outcome ReadFault e bytes j s.text) (sym begun.at_end)
          (subst (λ ls. IsStopped ls j s.text) (sym (ap until_end begun.all ∙ all_going k a j o l m w v s)) (so_far_stopped k a j o l m w v s), refl);
    }

-- too many bytes came
pub stops_too_long : (k : ℕ) (a b : Reading) (j : List Entry) (o : Bool) (l m r w v : Option (List ℕ)) → b.most ≡ 2 ^ 40 → SoFar k a j o l m w v → Answers lines_of (Err LineFault.TooLong) a b m r → Account TooLong j b.taken b.at_end l r w v
stops_too_long k a b j o l m r w v most s answer =
    let (begun, full) = answer.cuts s.handed.bytes s.lines s.handed.cut in
    let bytes = s.handed.bytes ++ answer.more in
    let too_long : IsTooLong false bytes = record { full = sym begun.counted ∙ (full ∙ most); open_end = refl } in
    record {
      bytes = bytes;
      taken_is = takes_on s.handed.bytes answer.more l m r s.handed.taken_is answer.taken_is;
      counted = sym begun.counted;
      put = s.text;
      written_is = s.written_is;
      outcome = subst (λ e. Outcome TooLong e bytes j s.text) (sym begun.at_end)
          (subst (λ ls. IsStopped ls j s.text) (sym (ap until_end begun.all ∙ all_going k a j o l m w v s)) (so_far_stopped k a j o l m w v s), too_long);
    }

-- the beginning of a journal whose lines go on
broken_here : (k : ℕ) (a : Reading) (j : List Entry) (o : Bool) (l m w v : Option (List ℕ)) (more : List (List ℕ)) → (s : SoFar k a j o l m w v) → IsBroken (s.lines ++ more) j s.text
broken_here k a j o l m w v more s = record {
  taken = s.lines;
  left = more;
  lines_are = refl;
  legal = (so_far_whole k a j o l m w v s).legal;
  unentered = [];
  in_turn = sym (so_far_serial k a j o l m w v s) ∙ sym (append-nil j);
  text = ([], sym (so_far_whole k a j o l m w v s).text ∙ sym (append-nil s.text));
}

-- memory was not had for a line
pub stops_reading : (k : ℕ) (a b : Reading) (j : List Entry) (o : Bool) (l m r w v : Option (List ℕ)) → SoFar k a j o l m w v → Answers lines_of (Err LineFault.Memory) a b m r → Account NoMemory j b.taken b.at_end l r w v
stops_reading k a b j o l m r w v s answer =
    let (counted, others, all) = answer.cuts s.handed.bytes s.lines s.handed.cut in
    record {
      bytes = s.handed.bytes ++ answer.more;
      taken_is = takes_on s.handed.bytes answer.more l m r s.handed.taken_is answer.taken_is;
      counted = sym counted;
      put = s.text;
      written_is = s.written_is;
      outcome = subst (λ ls. IsBroken ls j s.text) (sym (ap until_end all ∙ s.going others)) (broken_here k a j o l m w v (until_end others) s);
    }

-- a session whose run over these lines is at rest is done
is_done : (at_end ended : Bool) (k : ℕ) (lines : List (List ℕ)) (docs : List Doc) (journal : List Entry) (text : List ℕ) → length lines ≡ k → run lines journal ≡ Some (turn (at_rest k ended docs) text) → journal ≡ serial lines
    → (has_end lines ≡ true) ⊎ (at_end ≡ true) → IsDone at_end lines journal text
is_done at_end ended k lines docs journal text number ran serials ends = record {
  whole = record {
    legal = subst (λ o. IsSomeAnd o (λ t. t.state.taken ≡ length lines)) (sym ran) (sym number);
    text = sym (ap (λ o. option_map_or (λ t. t.text) o []) ran);
  };
  settled = subst (λ o. IsSomeAnd o (λ t. IsSettled lines t.state)) (sym ran) (record { taken = sym number; answered = refl; published = refl });
  serial_is = serials;
  ends = ends;
}

-- the input has ended
pub stops_at_end : (k : ℕ) (a b : Reading) (j : List Entry) (o : Bool) (l m r w v : Option (List ℕ)) → SoFar k a j o l m w v → Answers lines_of (Ok None) a b m r → Account Done j b.taken b.at_end l r w v
stops_at_end k a b j o l m r w v s answer =
    let (at_end, counted, all) = answer.cuts s.handed.bytes s.lines s.handed.cut in
    let bytes = s.handed.bytes ++ answer.more in
    let ran : run s.lines j ≡ Some (turn (at_rest k false s.docs) s.text) = subst (λ ls. run ls j ≡ Some (turn (at_rest k false s.docs) s.text)) (append-nil s.lines) (s.ran []) in
    let serials : j ≡ serial s.lines = so_far_serial k a j o l m w v s in
    record {
      bytes = bytes;
      taken_is = takes_on s.handed.bytes answer.more l m r s.handed.taken_is answer.taken_is;
      counted = sym counted;
      put = s.text;
      written_is = s.written_is;
      outcome = subst (λ e. Outcome Done e bytes j s.text) (sym at_end)
          (subst (λ ls. IsDone true ls j s.text) (sym (ap until_end all ∙ all_going k a j o l m w v s)) (is_done true false k s.lines s.docs j s.text s.number ran serials (inr refl)));
    }

-- ---- the session stops at a line that was handed out

lines_at : (lines : List (List ℕ)) (line : List ℕ) (b : Reading) (l r : Option (List ℕ)) → ((more : List (List ℕ)) → until_end (lines ++ more) ≡ lines ++ until_end more) → (h : Handed (lines ++ line ∷ []) b l r)
    → session_lines b.at_end h.bytes ≡ lines ++ until_end (line ∷ lines_of b.at_end b.waiting)
lines_at lines line b l r going h =
    let cut : lines_of b.at_end h.bytes ≡ (lines ++ line ∷ []) ++ lines_of b.at_end b.waiting =
    ap (lines_of b.at_end) (sym (append-nil h.bytes)) ∙ (h.cut.cut b.at_end [] (nothing_follows b.at_end) ∙ ap (λ xs. (lines ++ line ∷ []) ++ lines_of b.at_end xs) (append-nil b.waiting)) in
    ap until_end (cut ∙ one_more lines (lines_of b.at_end b.waiting) line) ∙ going (line ∷ lines_of b.at_end b.waiting)
  where
    nothing_follows : (e : Bool) → Follows e e []
    nothing_follows true = (refl, refl)
    nothing_follows false = tt

-- the line ends the session
pub stops_ended : (k : ℕ) (line : List ℕ) (a b : Reading) (j j' : List Entry) (o : Bool) (l m r w v u : Option (List ℕ)) → (s : SoFar k a j o l m w v) → Handed (s.lines ++ line ∷ []) b l r
    → is_end_line line ≡ true → j' ≡ j ++ entries_of (steps_of k o (read_message line)) → u ≡ behind v (texts_of (steps_of k o (read_message line))) → Account Done j' b.taken b.at_end l r w u
stops_ended k line a b j j' o l m r w v u s h last noted put =
    let steps = steps_of k (not (has_no_doc s.docs)) (read_message line) in
    let same : steps_of k o (read_message line) ≡ steps = ap (λ x. steps_of k x (read_message line)) s.opened_is in
    let j_is : j' ≡ j ++ entries_of steps = noted ∙ ap (λ xs. j ++ entries_of xs) same in
    let lines = s.lines ++ line ∷ [] in
    let docs = docs_behind s.docs (read_message line) in
    let is : session_lines b.at_end h.bytes ≡ lines = lines_at s.lines line b l r s.going h ∙ ap (λ ls. s.lines ++ ls) (until_end-at line (lines_of b.at_end b.waiting) last) in
    let ran : run lines j' ≡ Some (turn (at_rest (k + 1) (is_end_line line) docs) (s.text ++ texts_of steps)) = ap (run lines) j_is ∙ ran_more k s.lines [] line s.docs j s.text s.number s.ran in
    let serials : j' ≡ serial lines = j_is ∙ sym (serial_more k s.lines [] line s.docs j s.serial_is ∙ append-nil (j ++ entries_of steps)) in
    record {
      bytes = h.bytes;
      taken_is = h.taken_is;
      counted = sym h.cut.counted;
      put = s.text ++ texts_of steps;
      written_is = put ∙ (ap (λ x. behind x (texts_of (steps_of k o (read_message line)))) s.written_is ∙ (behind-behind w s.text (texts_of (steps_of k o (read_message line))) ∙ ap (λ xs. behind w (s.text ++ texts_of xs)) same));
      outcome = subst (λ ls. IsDone b.at_end ls j' (s.text ++ texts_of steps)) (sym is)
          (is_done b.at_end (is_end_line line) (k + 1) lines docs j' (s.text ++ texts_of steps) (let n = s.number in length-append s.lines (line ∷ []) ∙ omega arith) ran serials (inl (has_end-more s.lines line s.no_end ∙ last)));
    }

-- the journal of a line that was broken off
breaks : (k : ℕ) (line : List ℕ) (a : Reading) (j : List Entry) (o : Bool) (l m w v : Option (List ℕ)) (more : List (List ℕ)) → (s : SoFar k a j o l m w v) (done undone : List Step) (put unput : List ℕ)
    → steps_of k o (read_message line) ≡ done ++ undone → texts_of done ≡ put ++ unput → IsBroken (s.lines ++ line ∷ more) (j ++ entries_of done) (s.text ++ put)
breaks k line a j o l m w v more s [] undone put unput steps text =
    let none : put ≡ [] = front_nil put unput (sym text) in
    subst (λ xs. IsBroken (s.lines ++ line ∷ more) xs (s.text ++ put)) (sym (append-nil j)) (subst (λ xs. IsBroken (s.lines ++ line ∷ more) j xs) (sym (ap (λ xs. s.text ++ xs) none ∙ append-nil s.text)) (broken_here k a j o l m w v (line ∷ more) s))
  where
    front_nil : (xs ys : List ℕ) → xs ++ ys ≡ [] → xs ≡ []
    front_nil [] ys e = refl
    front_nil (x ∷ xs) ys e = cc
breaks k line a j o l m w v more s (x ∷ done) undone put unput steps text =
    let lines = s.lines ++ line ∷ [] in
    let first = first_run lines k s.docs (read_message line) x done undone (below s.lines [] line k s.number) (ap read_message (at_number s.lines [] line k s.number)) (ap (λ b. steps_of k b (read_message line)) (sym s.opened_is) ∙ steps) in
    let ran : run lines (j ++ entries_of (x ∷ done)) ≡ Some (turn first.0 (s.text ++ texts_of (x ∷ done))) = run_goes_on lines beginning (at_rest k false s.docs) first.0 j (entries_of (x ∷ done)) s.text (texts_of (x ∷ done)) (s.ran (line ∷ [])) first.1 in
    let all : steps_of k (not (has_no_doc s.docs)) (read_message line) ≡ (x ∷ done) ++ undone = ap (λ b. steps_of k b (read_message line)) (sym s.opened_is) ∙ steps in
    let entered : serial lines ≡ (j ++ entries_of (x ∷ done)) ++ entries_of undone =
    serial_more k s.lines [] line s.docs j s.serial_is
    ∙ (append-nil (j ++ entries_of (steps_of k (not (has_no_doc s.docs)) (read_message line))) ∙ (ap (λ xs. j ++ entries_of xs) all
    ∙ (ap (λ es. j ++ es) (entries_of-append (x ∷ done) undone) ∙ sym (append_assoc j (entries_of (x ∷ done)) (entries_of undone))))) in
    record {
      taken = lines;
      left = more;
      lines_are = sym (one_more s.lines more line);
      legal = subst (λ o. IsSomeAnd o (λ t. t.state.taken ≡ length lines)) (sym ran) (first.2 ∙ (let n = s.number in sym (length-append s.lines (line ∷ []) ∙ omega arith)));
      unentered = entries_of undone;
      in_turn = entered;
      text = (unput, ap (λ o. option_map_or (λ t. t.text) o []) ran ∙ (ap (λ xs. s.text ++ xs) text ∙ sym (append_assoc s.text put unput)));
    }

-- the sink failed, or memory was not had, in the midst of a line
pub stops_within : (status : Status) (k : ℕ) (line : List ℕ) (a b : Reading) (j j' : List Entry) (o : Bool) (l m r w v u : Option (List ℕ)) → (status ≡ WriteFault) ⊎ (status ≡ NoMemory) → (s : SoFar k a j o l m w v)
    → Handed (s.lines ++ line ∷ []) b l r → Partly (steps_of k o (read_message line)) j j' v u → Account status j' b.taken b.at_end l r w u
stops_within status k line a b j j' o l m r w v u which s h p =
    let first = until_end-first line (lines_of b.at_end b.waiting) in
    let is : session_lines b.at_end h.bytes ≡ s.lines ++ line ∷ first.0 = lines_at s.lines line b l r s.going h ∙ ap (λ ls. s.lines ++ ls) first.1 in
    let broken : IsBroken (session_lines b.at_end h.bytes) j' (s.text ++ p.put) =
    subst (λ ls. IsBroken ls j' (s.text ++ p.put)) (sym is) (subst (λ es. IsBroken (s.lines ++ line ∷ first.0) es (s.text ++ p.put)) (sym p.journal) (breaks k line a j o l m w v first.0 s p.done p.undone p.put p.unput p.steps_are p.text_is)) in
    record {
      bytes = h.bytes;
      taken_is = h.taken_is;
      counted = sym h.cut.counted;
      put = s.text ++ p.put;
      written_is = p.written_is ∙ (ap (λ x. behind x p.put) s.written_is ∙ behind-behind w s.text p.put);
      outcome = elim which as (λ _. Outcome status b.at_end h.bytes j' (s.text ++ p.put)) [
        | inl e ↦ subst (λ x. Outcome x b.at_end h.bytes j' (s.text ++ p.put)) (sym e) broken
        | inr e ↦ subst (λ x. Outcome x b.at_end h.bytes j' (s.text ++ p.put)) (sym e) broken
      ];
    }

-- ---- for the loop

-- no session has so many lines
pub never_so_many : (k : ℕ) (a : Reading) (j : List Entry) (o : Bool) (l m w v : Option (List ℕ)) → k ≡ 2 ^ 64 - 1 → a.taken ≤ a.most → a.most ≡ 2 ^ 40 → SoFar k a j o l m w v → ⊥
never_so_many k a j o l m w v many within most s =
    let few = s.handed.cut.few in
    let counted = s.handed.cut.counted in
    let number : length s.lines ≡ k = s.number in
    absurd (omega arith)

-- memory was not had before a byte was taken
pub never_began : (e : Bool) (left w : Option (List ℕ)) (journal : List Entry) → journal ≡ [] → Account NoMemory journal 0 e left left w w
never_began e left w journal none = record {
  bytes = [];
  taken_is = sym (before-nil left);
  counted = refl;
  put = [];
  written_is = sym (behind-nil w);
  outcome = subst (λ es. Outcome NoMemory e [] es []) (sym none) (record { taken = []; left = []; lines_are = refl; legal = refl; unentered = []; in_turn = refl; text = ([], refl) });
}
