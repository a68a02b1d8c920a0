-- A line of a session, with what answers it.
use Rattle.std.proofs.Common.{◌≡◌, ◌∙◌, ℕ, false, Option, List, [], ◌∷◌, ◌++◌, refl, ap, sym, subst}
use Rattle.std.proofs.lemmas.List.{append-nil}
use Rattle.py_base.specs.declared.diag.Diag.{Diag}
use Rattle.py_base.specs.declared.span.Place.{Place}
use Rattle.edge_io.specs.Stream.{behind}
use Rattle.wire_json.specs.declared.message.WireStep.{WireStep}
use Rattle.session_core.specs.declared.entry.Entry.{Entry}
use Rattle.session_core.specs.declared.entry.Entry.TheVariants.{Line}
use Rattle.session_core.specs.declared.turn.Turn.{Turn}
use Rattle.session_core.specs.Machine.{State, take_line}
use Rattle.session_core.specs.Journal.{Run, IsAtRest, says_end, settling, settled}
use Rattle.session_core.specs.Calls.{Serving, TakesTurn}
use Rattle.serial_server.specs.Bytes.{texts}
use Rattle.serial_server.specs.OneJob.{HasOneJob}
use Rattle.serial_server.specs.Parts.{PutsPart, IsFresh, Enters, EntersPart, Settles, ServesLine, BreaksLine}
use Rattle.serial_server.proofs.Entering.{enters_nothing, enters_all, enters_first, enters_both, enters_then}
use Rattle.serial_server.proofs.Rest.{line_one, line_ended}

module _ (old mid : Serving) (line : WireStep) (turn : Turn) (takes : TakesTurn old line mid turn) where
  state_is : mid.state ≡ (take_line old.state line).state
  state_is = ap (λ (v : Serving). v.state) takes.leads

  pub line_has_one : IsAtRest old.state → IsFresh old → HasOneJob mid.handed mid.state
  line_has_one at_rest fresh =
      let handed : mid.handed ≡ old.state.made = ap (λ (v : Serving). v.handed) takes.leads ∙ fresh.handed in
      subst (λ (n : ℕ). HasOneJob n mid.state) (sym handed) (subst (λ (s : State). HasOneJob old.state.made s) (sym state_is) (line_one old.state line at_rest))

  pub line_ends : old.state.ended ≡ false → turn.ended ≡ says_end line
  line_ends going = sym takes.ends ∙ ap (λ (s : State). s.ended) state_is ∙ line_ended old.state line going

  module _ (HasList : List ℕ → List Diag → Type 0) (HasHover : List ℕ → Place → Option (List ℕ) → Type 0) (going : old.state.ended ≡ false) where
    line_runs : Run HasList HasHover old.state (Line old.state.taken ∷ []) (line ∷ []) turn.outs mid.state
    line_runs = record {
      state = mid.state;
      first_lines = line ∷ [];
      first_outs = turn.outs;
      first = record { line = line; lines_are = refl; in_turn = refl; going = going; writes = takes.outs; leads = state_is };
      rest_lines = [];
      rest_outs = [];
      rest = (refl, refl, refl);
      lines_are = refl;
      outs_are = sym (append-nil turn.outs);
    }

    line_enters : (w w' : Option (List ℕ)) → w' ≡ behind w (texts turn.outs) → Enters HasList HasHover (Line old.state.taken ∷ []) (line ∷ []) old mid w w'
    line_enters w w' put = record { outs = turn.outs; run = line_runs; journal = ap (λ (v : Serving). v.journal) takes.leads; written_is = put }

    -- its replies were broken off
    pub line_cut : (w w' : Option (List ℕ)) → PutsPart turn.outs w w' → BreaksLine HasList HasHover line old mid w w'
    line_cut w w' put = record {
      lines = line ∷ [];
      left = [];
      lines_are = refl;
      enters = enters_first HasList HasHover (Line old.state.taken ∷ []) (settling (take_line old.state line).state ++ []) (line ∷ []) old mid w w'
          (enters_all HasList HasHover (Line old.state.taken ∷ []) (line ∷ []) turn.outs old mid w w' line_runs (ap (λ (v : Serving). v.journal) takes.leads) put);
    }

    settled_entries : settling mid.state ≡ settling (take_line old.state line).state ++ []
    settled_entries = ap settling state_is ∙ sym (append-nil (settling (take_line old.state line).state))

    -- all is answered
    pub line_served : (new : Serving) (w v u : Option (List ℕ)) → v ≡ behind w (texts turn.outs) → Settles HasList HasHover mid new v u → ServesLine HasList HasHover line old new w u
    line_served new w v u put settles = record {
      enters = subst (λ (es : List Entry). Enters HasList HasHover (Line old.state.taken ∷ es) (line ∷ []) old new w u) settled_entries
          (enters_both HasList HasHover (Line old.state.taken ∷ []) (settling mid.state) (line ∷ []) [] old mid new w v u (line_enters w v put) settles.enters);
      state = settles.state ∙ ap settled state_is;
      fresh = settles.fresh;
    }

    -- the answers were broken off
    pub line_partly : (new : Serving) (w v u : Option (List ℕ)) → v ≡ behind w (texts turn.outs) → EntersPart HasList HasHover (settling mid.state) [] mid new v u → BreaksLine HasList HasHover line old new w u
    line_partly new w v u put part = record {
      lines = line ∷ [];
      left = [];
      lines_are = refl;
      enters = subst (λ (es : List Entry). EntersPart HasList HasHover (Line old.state.taken ∷ es) (line ∷ []) old new w u) settled_entries
          (enters_then HasList HasHover (Line old.state.taken ∷ []) (settling mid.state) (line ∷ []) [] old mid new w v u (line_enters w v put) part);
    }

-- nothing was done of it
pub line_nothing : (HasList : List ℕ → List Diag → Type 0) (HasHover : List ℕ → Place → Option (List ℕ) → Type 0) (old new : Serving) (line : WireStep) (w : Option (List ℕ)) → new.journal ≡ old.journal → BreaksLine HasList HasHover line old new w w
line_nothing HasList HasHover old new line w kept = record { lines = []; left = line ∷ []; lines_are = refl; enters = enters_nothing HasList HasHover [] old new w kept }
