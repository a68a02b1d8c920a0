-- What a session has done so far, and when it stops.
use Rattle.std.proofs.Common.{◌≡◌, ◌∙◌, ◌⊎◌, inl, inr, ℕ, ◌+◌, ◌-◌, ◌^◌, ◌<◌, ◌≤◌, Bool, true, false, cond, ◌||◌, Option, Some, None, Ok, Err, List, [], ◌∷◌, ◌++◌, length, map, refl, ap, sym, append_assoc, subst, arith, length-append}
use Rattle.std.proofs.lemmas.List.{append-nil, map-append}
use Rattle.std.proofs.lemmas.List.Folds.{list_any-append}
use Rattle.py_base.specs.declared.diag.Diag.{Diag}
use Rattle.py_base.specs.declared.span.Place.{Place}
use Rattle.edge_io.specs.Stream.{before}
use Rattle.edge_io.specs.declared.line.Line.{Line}
use Rattle.edge_io.specs.declared.reader.LineFault.TheVariants as LineFault
use Rattle.edge_io.specs.Line.{lines_of}
use Rattle.edge_io.specs.Reading.{Reading}
use Rattle.edge_io.specs.Cutting.{Follows, IsCut, IsNew, Answers}
use Rattle.wire_json.specs.declared.message.WireStep.{WireStep}
use Rattle.session_core.specs.declared.entry.Entry.{Entry}
use Rattle.session_core.specs.declared.entry.Entry.TheVariants.{Line as LineEntry}
use Rattle.session_core.specs.Machine.{State, beginning, take_line}
use Rattle.session_core.specs.Journal.{Run, IsAtRest, says_end, until_end, serial, serial_from, settling, settled}
use Rattle.session_core.specs.Calls.{Serving, new_serving}
use Rattle.serial_server.specs.declared.status.Status.{Status}
use Rattle.serial_server.specs.declared.status.Status.TheVariants.{Done, ReadFault, WriteFault, NoMemory, TooLong}
use Rattle.serial_server.specs.Bytes.{read_bytes, session_lines, has_end, texts}
use Rattle.serial_server.specs.Served.{IsMarked, IsTooLong, IsStopped, IsDone, IsBroken, IsInTurn, Outcome, SerialAccount}
use Rattle.serial_server.specs.Parts.{IsFresh, Enters, EntersPart, ServesLine, BreaksLine}
use Rattle.serial_server.proofs.Streams.{before-before, before-nil, behind-nil}
use Rattle.serial_server.proofs.Entering.{enters_both, enters_then}
use Rattle.serial_server.proofs.Rest.{line_taken, line_ended, settled_rests}

-- these lines were handed out, and the reader is at this place behind them
pub record Handed (lines : List (List ℕ)) (reader : Reading) (left left' : Option (List ℕ)) : Type 0 where
  pub bytes : List ℕ
  pub taken_is : left ≡ before bytes left'
  pub cut : IsCut lines_of reader bytes lines

abbrev pub as_read : List (List ℕ) → List WireStep
as_read lines = map read_bytes lines

-- ---- lines

one_more : {X : Type 0} (xs more : List X) (x : X) → (xs ++ x ∷ []) ++ more ≡ xs ++ x ∷ more
one_more xs more x = append_assoc xs (x ∷ []) more

until_going : (line : WireStep) (more : List WireStep) → says_end line ≡ false → until_end (line ∷ more) ≡ line ∷ until_end more
until_going line more is = rw is refl

until_last : (line : WireStep) (more : List WireStep) → says_end line ≡ true → until_end (line ∷ more) ≡ line ∷ []
until_last line more is = rw is refl

until_first : (line : WireStep) (more : List WireStep) → (rest : List WireStep) × (until_end (line ∷ more) ≡ line ∷ rest)
until_first line more = elim (says_end line) as (λ b. (rest : List WireStep) × (cond b (line ∷ []) (line ∷ until_end more) ≡ line ∷ rest)) [ true ↦ ([], refl) | false ↦ (until_end more, refl) ]

end_behind : (lines : List WireStep) (line : WireStep) → has_end lines ≡ false → has_end (lines ++ line ∷ []) ≡ says_end line
end_behind lines line none = list_any-append says_end lines (line ∷ []) ∙ rw none (or_false (says_end line))
  where
    or_false : (b : Bool) → (b || false) ≡ b
    or_false true = refl
    or_false false = refl

-- the serial entries of a line come before those of the lines behind it
serial_apart : (t : State) (first : WireStep) (rest : List WireStep) → serial_from t (first ∷ rest) ≡ serial_from t (first ∷ []) ++ serial_from (settled (take_line t first).state) rest
serial_apart t first rest = ap (λ (es : List Entry). LineEntry t.taken ∷ (es ++ serial_from (settled (take_line t first).state) rest)) (sym (append-nil (settling (take_line t first).state)))

-- the serial entries of some lines begin those of more
serial_begins : (t : State) (lines more : List WireStep) → (rest : List Entry) × (serial_from t (lines ++ more) ≡ serial_from t lines ++ rest)
serial_begins t [] more = (serial_from t more, refl)
serial_begins t (line ∷ lines) more =
    let next = take_line t line in
    let later = serial_begins (settled next.state) lines more in
    (later.0, ap (λ (es : List Entry). LineEntry t.taken ∷ (settling next.state ++ es)) later.1 ∙ ap (λ (es : List Entry). LineEntry t.taken ∷ es) (sym (append_assoc (settling next.state) (serial_from (settled next.state) lines) later.0)))

-- a call of the reader keeps what the source's mark says
pub marks : {X : Type 0} (ended : X → Bool) (first old new : X) (at_end at_end' : Bool) → IsMarked (ended first) (ended old) at_end → ((new ≡ old) × (at_end' ≡ at_end)) ⊎ (ended new ≡ at_end') → IsMarked (ended first) (ended new) at_end'
marks ended first old new at_end at_end' before (inr now) = inr now
marks ended first old new at_end at_end' (inl (as_first, going)) (inl (same, kept)) = inl (ap ended same ∙ as_first, kept ∙ going)
marks ended first old new at_end at_end' (inr marked) (inl (same, kept)) = inr (ap ended same ∙ marked ∙ sym kept)

takes_on : (bytes more : List ℕ) (l m r : Option (List ℕ)) → l ≡ before bytes m → m ≡ before more r → l ≡ before (bytes ++ more) r
takes_on bytes more l m r first second = first ∙ (ap (before bytes) second ∙ before-before bytes more r)

pub hands_line : (lines : List (List ℕ)) (line : Line) (a b : Reading) (l m r : Option (List ℕ)) → (h : Handed lines a l m) → (answer : Answers lines_of (Ok (Some line)) a b m r) → Handed (lines ++ (answer.cuts h.bytes lines h.cut).0 ∷ []) b l r
hands_line lines line a b l m r h answer = record {
  bytes = h.bytes ++ answer.more;
  taken_is = takes_on h.bytes answer.more l m r h.taken_is answer.taken_is;
  cut = (answer.cuts h.bytes lines h.cut).2;
}

-- fewer lines were handed out than bytes may be taken
pub few_lines : (lines : List (List ℕ)) (line : List ℕ) (b : Reading) (l r : Option (List ℕ)) → Handed (lines ++ line ∷ []) b l r → b.taken ≤ b.most → b.most ≡ 2 ^ 40 → length lines < 2 ^ 40
few_lines lines line b l r h within most =
    let few = h.cut.few in
    let counted = h.cut.counted in
    let parts : length (lines ++ line ∷ []) ≡ length lines + 1 = length-append lines (line ∷ []) in
    omega arith

lines_at : (lines : List (List ℕ)) (line : List ℕ) (b : Reading) (l r : Option (List ℕ)) → ((more : List WireStep) → until_end (as_read lines ++ more) ≡ as_read lines ++ until_end more) → (h : Handed (lines ++ line ∷ []) b l r)
    → session_lines b.at_end h.bytes ≡ as_read lines ++ until_end (read_bytes line ∷ as_read (lines_of b.at_end b.waiting))
lines_at lines line b l r going h =
    let cut : lines_of b.at_end h.bytes ≡ lines ++ line ∷ lines_of b.at_end b.waiting =
    ap (lines_of b.at_end) (sym (append-nil h.bytes)) ∙ (h.cut.cut b.at_end [] (nothing_follows b.at_end) ∙ ap (λ xs. (lines ++ line ∷ []) ++ lines_of b.at_end xs) (append-nil b.waiting)) ∙ one_more lines (lines_of b.at_end b.waiting) line in
    ap (λ (ls : List (List ℕ)). until_end (as_read ls)) cut ∙ ap until_end (map-append read_bytes lines (line ∷ lines_of b.at_end b.waiting)) ∙ going (read_bytes line ∷ as_read (lines_of b.at_end b.waiting))
  where
    nothing_follows : (e : Bool) → Follows e e []
    nothing_follows true = (refl, refl)
    nothing_follows false = tt

module _ (HasList : List ℕ → List Diag → Type 0) (HasHover : List ℕ → Place → Option (List ℕ) → Type 0) where
  -- the lines were taken, none of which ends the session, and all that they opened is answered and written
  pub record SoFar (reader : Reading) (v : Serving) (left left' w w' : Option (List ℕ)) : Type 0 where
    pub lines : List (List ℕ)
    pub handed : Handed lines reader left left'
    pub enters : Enters HasList HasHover v.journal (as_read lines) new_serving v w w'
    pub at_rest : IsAtRest v.state
    pub fresh : IsFresh v
    pub going : v.state.ended ≡ false
    pub number : v.state.taken ≡ length lines
    pub until : (more : List WireStep) → until_end (as_read lines ++ more) ≡ as_read lines ++ until_end more
    pub no_end : has_end (as_read lines) ≡ false
    pub serial_is : (more : List WireStep) → serial (as_read lines ++ more) ≡ v.journal ++ serial_from v.state more

  pub begins : (reader : Reading) (v : Serving) (left w : Option (List ℕ)) → v ≡ new_serving → IsNew reader (2 ^ 40) → SoFar reader v left left w w
  begins reader v left w new is = subst (λ (u : Serving). SoFar reader u left left w w) (sym new) (record {
    lines = [];
    handed = record {
      bytes = [];
      taken_is = sym (before-nil left);
      cut = record { counted = is.taken; few = rw is.waiting (omega arith); cut = λ e more _. rw is.waiting refl };
    };
    enters = record { outs = []; run = (refl, refl, refl); journal = refl; written_is = sym (behind-nil w) };
    at_rest = record { answered = refl; published = refl };
    fresh = record { handed = refl; back = refl };
    going = refl;
    number = refl;
    until = λ more. refl;
    no_end = refl;
    serial_is = λ more. refl;
  })

  -- ---- the session stops between two lines

  module _ (a : Reading) (v : Serving) (l m w w' : Option (List ℕ)) (s : SoFar a v l m w w') where
    serial_all : v.journal ≡ serial (as_read s.lines)
    serial_all = sym (append-nil v.journal) ∙ sym (s.serial_is []) ∙ ap serial (append-nil (as_read s.lines))

    all_going : until_end (as_read s.lines) ≡ as_read s.lines
    all_going = ap until_end (sym (append-nil (as_read s.lines))) ∙ s.until [] ∙ append-nil (as_read s.lines)

    stopped : IsStopped HasList HasHover (as_read s.lines) v.journal (texts s.enters.outs)
    stopped = record { outs = s.enters.outs; legal = record { state = v.state; run = s.enters.run }; text = refl; going = s.no_end }

    broken_here : (more : List WireStep) → IsBroken HasList HasHover (as_read s.lines ++ more) v.journal (texts s.enters.outs)
    broken_here more = record {
      taken = as_read s.lines;
      left = more;
      lines_are = refl;
      outs = s.enters.outs;
      legal = record { state = v.state; run = s.enters.run };
      text = ([], sym (append-nil (texts s.enters.outs)));
    }

    -- the source failed
    pub stops_read_fault : (b : Reading) (r : Option (List ℕ)) → Answers lines_of (Err LineFault.ReadFault) a b m r → SerialAccount HasList HasHover ReadFault v.journal b.taken b.at_end l r w w'
    stops_read_fault b r answer =
        let begun = (answer.cuts s.handed.bytes s.lines s.handed.cut).0 in
        let bytes = s.handed.bytes ++ answer.more in
        let is : session_lines false bytes ≡ as_read s.lines = ap (λ ls. until_end (as_read ls)) begun.all ∙ all_going in
        record {
          account = record {
            bytes = bytes;
            taken_is = takes_on s.handed.bytes answer.more l m r s.handed.taken_is answer.taken_is;
            counted = sym begun.counted;
            put = texts s.enters.outs;
            written_is = s.enters.written_is;
            outcome = subst (λ e. Outcome HasList HasHover ReadFault e bytes v.journal (texts s.enters.outs)) (sym begun.at_end)
                (subst (λ ls. IsStopped HasList HasHover ls v.journal (texts s.enters.outs)) (sym is) stopped, refl);
          };
          in_turn = serial_all ∙ ap serial (sym is) ∙ ap (λ e. serial (session_lines e bytes)) (sym begun.at_end);
        }

    -- too many bytes came
    pub stops_too_long : (b : Reading) (r : Option (List ℕ)) → b.most ≡ 2 ^ 40 → Answers lines_of (Err LineFault.TooLong) a b m r → SerialAccount HasList HasHover TooLong v.journal b.taken b.at_end l r w w'
    stops_too_long b r most answer =
        let (begun, full) = answer.cuts s.handed.bytes s.lines s.handed.cut in
        let bytes = s.handed.bytes ++ answer.more in
        let too_long : IsTooLong false bytes = record { full = sym begun.counted ∙ (full ∙ most); open_end = refl } in
        let is : session_lines false bytes ≡ as_read s.lines = ap (λ ls. until_end (as_read ls)) begun.all ∙ all_going in
        record {
          account = record {
            bytes = bytes;
            taken_is = takes_on s.handed.bytes answer.more l m r s.handed.taken_is answer.taken_is;
            counted = sym begun.counted;
            put = texts s.enters.outs;
            written_is = s.enters.written_is;
            outcome = subst (λ e. Outcome HasList HasHover TooLong e bytes v.journal (texts s.enters.outs)) (sym begun.at_end)
                (subst (λ ls. IsStopped HasList HasHover ls v.journal (texts s.enters.outs)) (sym is) stopped, too_long);
          };
          in_turn = serial_all ∙ ap serial (sym is) ∙ ap (λ e. serial (session_lines e bytes)) (sym begun.at_end);
        }

    -- memory was not had for a line
    pub stops_reading : (b : Reading) (r : Option (List ℕ)) → Answers lines_of (Err LineFault.Memory) a b m r → SerialAccount HasList HasHover NoMemory v.journal b.taken b.at_end l r w w'
    stops_reading b r answer =
        let (counted, others, all) = answer.cuts s.handed.bytes s.lines s.handed.cut in
        let bytes = s.handed.bytes ++ answer.more in
        let is : session_lines b.at_end bytes ≡ as_read s.lines ++ until_end (as_read others) = ap (λ ls. until_end (as_read ls)) all ∙ ap until_end (map-append read_bytes s.lines others) ∙ s.until (as_read others) in
        record {
          account = record {
            bytes = bytes;
            taken_is = takes_on s.handed.bytes answer.more l m r s.handed.taken_is answer.taken_is;
            counted = sym counted;
            put = texts s.enters.outs;
            written_is = s.enters.written_is;
            outcome = subst (λ ls. IsBroken HasList HasHover ls v.journal (texts s.enters.outs)) (sym is) (broken_here (until_end (as_read others)));
          };
          in_turn = (serial_from v.state (until_end (as_read others)), ap serial is ∙ s.serial_is (until_end (as_read others)));
        }

    -- the input has ended
    pub stops_at_end : (b : Reading) (r : Option (List ℕ)) → Answers lines_of (Ok None) a b m r → SerialAccount HasList HasHover Done v.journal b.taken b.at_end l r w w'
    stops_at_end b r answer =
        let (at_end, counted, all) = answer.cuts s.handed.bytes s.lines s.handed.cut in
        let bytes = s.handed.bytes ++ answer.more in
        let is : session_lines true bytes ≡ as_read s.lines = ap (λ ls. until_end (as_read ls)) all ∙ all_going in
        let done : IsDone HasList HasHover true (as_read s.lines) v.journal (texts s.enters.outs) = record { outs = s.enters.outs; settled = record { state = v.state; run = s.enters.run; at_rest = s.at_rest }; text = refl; ends = inr refl } in
        record {
          account = record {
            bytes = bytes;
            taken_is = takes_on s.handed.bytes answer.more l m r s.handed.taken_is answer.taken_is;
            counted = sym counted;
            put = texts s.enters.outs;
            written_is = s.enters.written_is;
            outcome = subst (λ e. Outcome HasList HasHover Done e bytes v.journal (texts s.enters.outs)) (sym at_end)
                (subst (λ ls. IsDone HasList HasHover true ls v.journal (texts s.enters.outs)) (sym is) done);
          };
          in_turn = serial_all ∙ ap serial (sym is) ∙ ap (λ e. serial (session_lines e bytes)) (sym at_end);
        }

  -- ---- a line is served

  module _ (line : List ℕ) (a b : Reading) (v v' : Serving) (l m r w x u : Option (List ℕ)) (s : SoFar a v l m w x) (h : Handed (s.lines ++ line ∷ []) b l r) where
    lines_are : as_read (s.lines ++ line ∷ []) ≡ as_read s.lines ++ read_bytes line ∷ []
    lines_are = map-append read_bytes s.lines (line ∷ [])

    module _ (served : ServesLine HasList HasHover (read_bytes line) v v' x u) where
      all_enters : Enters HasList HasHover (v.journal ++ serial_from v.state (read_bytes line ∷ [])) (as_read s.lines ++ read_bytes line ∷ []) new_serving v' w u
      all_enters = enters_both HasList HasHover v.journal (serial_from v.state (read_bytes line ∷ [])) (as_read s.lines) (read_bytes line ∷ []) new_serving v v' w x u s.enters served.enters

      serial_more : (more : List WireStep) → serial (as_read s.lines ++ read_bytes line ∷ more) ≡ v'.journal ++ serial_from v'.state more
      serial_more more =
          s.serial_is (read_bytes line ∷ more)
          ∙ ap (λ (es : List Entry). v.journal ++ es) (serial_apart v.state (read_bytes line) more)
          ∙ sym (append_assoc v.journal (serial_from v.state (read_bytes line ∷ [])) (serial_from (settled (take_line v.state (read_bytes line)).state) more))
          ∙ ap (λ (es : List Entry). es ++ serial_from (settled (take_line v.state (read_bytes line)).state) more) (sym served.enters.journal)
          ∙ ap (λ (t : State). v'.journal ++ serial_from t more) (sym served.state)

      pub counts_line : v'.state.taken ≡ v.state.taken + 1
      counts_line = ap (λ (t : State). t.taken) served.state ∙ line_taken v.state (read_bytes line)

      -- it doesn't end the session
      pub goes_on : says_end (read_bytes line) ≡ false → SoFar b v' l r w u
      goes_on more_follows = record {
        lines = s.lines ++ line ∷ [];
        handed = h;
        enters = subst (λ (ls : List WireStep). Enters HasList HasHover v'.journal ls new_serving v' w u) (sym lines_are) (subst (λ (es : List Entry). Enters HasList HasHover es (as_read s.lines ++ read_bytes line ∷ []) new_serving v' w u) (sym served.enters.journal) all_enters);
        at_rest = subst (λ (t : State). IsAtRest t) (sym served.state) (settled_rests (take_line v.state (read_bytes line)).state);
        fresh = served.fresh;
        going = ap (λ (t : State). t.ended) served.state ∙ line_ended v.state (read_bytes line) s.going ∙ more_follows;
        number = ap (λ (t : State). t.taken) served.state ∙ line_taken v.state (read_bytes line) ∙ ap (λ (n : ℕ). n + 1) s.number ∙ sym (length-append s.lines (line ∷ []));
        until = λ more. ap (λ (ls : List WireStep). until_end (ls ++ more)) lines_are ∙ ap until_end (one_more (as_read s.lines) more (read_bytes line)) ∙ s.until (read_bytes line ∷ more) ∙ ap (λ (ls : List WireStep). as_read s.lines ++ ls) (until_going (read_bytes line) more more_follows) ∙ sym (one_more (as_read s.lines) (until_end more) (read_bytes line)) ∙ ap (λ (ls : List WireStep). ls ++ until_end more) (sym lines_are);
        no_end = ap has_end lines_are ∙ end_behind (as_read s.lines) (read_bytes line) s.no_end ∙ more_follows;
        serial_is = λ more. ap (λ (ls : List WireStep). serial (ls ++ more)) lines_are ∙ ap serial (one_more (as_read s.lines) more (read_bytes line)) ∙ serial_more more;
      }

      -- it ends it
      pub stops_ended : says_end (read_bytes line) ≡ true → SerialAccount HasList HasHover Done v'.journal b.taken b.at_end l r w u
      stops_ended last =
          let is : session_lines b.at_end h.bytes ≡ as_read s.lines ++ read_bytes line ∷ [] = lines_at s.lines line b l r s.until h ∙ ap (λ (ls : List WireStep). as_read s.lines ++ ls) (until_last (read_bytes line) (as_read (lines_of b.at_end b.waiting)) last) in
          record {
            account = record {
              bytes = h.bytes;
              taken_is = h.taken_is;
              counted = sym h.cut.counted;
              put = texts all_enters.outs;
              written_is = all_enters.written_is;
              outcome = subst (λ (ls : List WireStep). IsDone HasList HasHover b.at_end ls v'.journal (texts all_enters.outs)) (sym is) (record {
                outs = all_enters.outs;
                settled = record { state = v'.state; run = subst (λ (es : List Entry). Run HasList HasHover beginning es (as_read s.lines ++ read_bytes line ∷ []) all_enters.outs v'.state) (sym served.enters.journal) all_enters.run; at_rest = subst (λ (t : State). IsAtRest t) (sym served.state) (settled_rests (take_line v.state (read_bytes line)).state) };
                text = refl;
                ends = inl (end_behind (as_read s.lines) (read_bytes line) s.no_end ∙ last);
              });
            };
            in_turn = sym (serial_more [] ∙ append-nil v'.journal) ∙ ap serial (sym is);
          }

    -- ---- a line is broken off

    regroup : (lines part left rest : List WireStep) (first : WireStep) → first ∷ [] ≡ part ++ left → lines ++ first ∷ rest ≡ (lines ++ part) ++ (left ++ rest)
    regroup lines part left rest first is =
        ap (λ (ls : List WireStep). lines ++ (ls ++ rest)) is ∙ ap (λ (ls : List WireStep). lines ++ ls) (append_assoc part left rest) ∙ sym (append_assoc lines part (left ++ rest))

    broken : (rest : List WireStep) (part : BreaksLine HasList HasHover (read_bytes line) v v' x u) → (e : EntersPart HasList HasHover (v.journal ++ serial_from v.state part.lines) (as_read s.lines ++ part.lines) new_serving v' w u) → IsBroken HasList HasHover (as_read s.lines ++ read_bytes line ∷ rest) v'.journal e.put.put
    broken rest part e = record {
      taken = as_read s.lines ++ part.lines;
      left = part.left ++ rest;
      lines_are = regroup (as_read s.lines) part.lines part.left rest (read_bytes line) part.lines_are;
      outs = e.outs;
      legal = record { state = e.state; run = subst (λ (es : List Entry). Run HasList HasHover beginning es (as_read s.lines ++ part.lines) e.outs e.state) (sym e.journal) e.run };
      text = (e.put.unput, e.put.text_is);
    }

    -- what the journal lacks of the serial one
    broken_in_turn : (rest : List WireStep) (part : BreaksLine HasList HasHover (read_bytes line) v v' x u) → (e : EntersPart HasList HasHover (v.journal ++ serial_from v.state part.lines) (as_read s.lines ++ part.lines) new_serving v' w u)
        → (missing : List Entry) × (serial (as_read s.lines ++ read_bytes line ∷ rest) ≡ v'.journal ++ missing)
    broken_in_turn rest part e =
        let later = serial_begins v.state part.lines (part.left ++ rest) in (
          e.undone ++ later.0,
          ap serial (regroup (as_read s.lines) part.lines part.left rest (read_bytes line) part.lines_are ∙ append_assoc (as_read s.lines) part.lines (part.left ++ rest))
              ∙ s.serial_is (part.lines ++ (part.left ++ rest))
              ∙ ap (λ (es : List Entry). v.journal ++ es) later.1
              ∙ sym (append_assoc v.journal (serial_from v.state part.lines) later.0)
              ∙ ap (λ (es : List Entry). es ++ later.0) (e.entries_are ∙ ap (λ (es : List Entry). es ++ e.undone) (sym e.journal))
              ∙ append_assoc v'.journal e.undone later.0,
        )

    pub stops_within : (status : Status) → (status ≡ WriteFault) ⊎ (status ≡ NoMemory) → BreaksLine HasList HasHover (read_bytes line) v v' x u → SerialAccount HasList HasHover status v'.journal b.taken b.at_end l r w u
    stops_within status which part =
        let first = until_first (read_bytes line) (as_read (lines_of b.at_end b.waiting)) in
        let is : session_lines b.at_end h.bytes ≡ as_read s.lines ++ read_bytes line ∷ first.0 = lines_at s.lines line b l r s.until h ∙ ap (λ (ls : List WireStep). as_read s.lines ++ ls) first.1 in
        let e = enters_then HasList HasHover v.journal (serial_from v.state part.lines) (as_read s.lines) part.lines new_serving v v' w x u s.enters part.enters in
        let here : IsBroken HasList HasHover (session_lines b.at_end h.bytes) v'.journal e.put.put = subst (λ (ls : List WireStep). IsBroken HasList HasHover ls v'.journal e.put.put) (sym is) (broken first.0 part e) in
        let missing = broken_in_turn first.0 part e in
        let behind_is : serial (session_lines b.at_end h.bytes) ≡ v'.journal ++ missing.0 = ap serial is ∙ missing.1 in
        record {
          account = record {
            bytes = h.bytes;
            taken_is = h.taken_is;
            counted = sym h.cut.counted;
            put = e.put.put;
            written_is = e.put.written_is;
            outcome = elim which as (λ _. Outcome HasList HasHover status b.at_end h.bytes v'.journal e.put.put) [
              | inl e' ↦ subst (λ st. Outcome HasList HasHover st b.at_end h.bytes v'.journal e.put.put) (sym e') here
              | inr e' ↦ subst (λ st. Outcome HasList HasHover st b.at_end h.bytes v'.journal e.put.put) (sym e') here
            ];
          };
          in_turn = elim which as (λ _. IsInTurn status (session_lines b.at_end h.bytes) v'.journal) [
            | inl e' ↦ subst (λ st. IsInTurn st (session_lines b.at_end h.bytes) v'.journal) (sym e') (missing.0, behind_is)
            | inr e' ↦ subst (λ st. IsInTurn st (session_lines b.at_end h.bytes) v'.journal) (sym e') (missing.0, behind_is)
          ];
        }

  -- memory was not had before a byte was taken
  pub never_began : (e : Bool) (left w : Option (List ℕ)) (journal : List Entry) → journal ≡ [] → SerialAccount HasList HasHover NoMemory journal 0 e left left w w
  never_began e left w journal none = record {
    account = record {
      bytes = [];
      taken_is = sym (before-nil left);
      counted = refl;
      put = [];
      written_is = sym (behind-nil w);
      outcome = subst (λ es. Outcome HasList HasHover NoMemory e [] es []) (sym none) (record { taken = []; left = []; lines_are = refl; outs = []; legal = record { state = beginning; run = (refl, refl, refl) }; text = ([], refl) });
    };
    in_turn = ([], sym (append-nil journal ∙ none));
  }

  -- no session has so many lines
  pub never_so_many : (k : ℕ) (a : Reading) (v : Serving) (l m w x : Option (List ℕ)) → k ≡ 2 ^ 64 - 1 → v.state.taken ≡ k → a.taken ≤ a.most → a.most ≡ 2 ^ 40 → SoFar a v l m w x → ⊥
  never_so_many k a v l m w x many counted within most s =
      let few = s.handed.cut.few in
      let bytes = s.handed.cut.counted in
      let number : v.state.taken ≡ length s.lines = s.number in
      absurd (omega arith)
