-- Entries of a journal with their replies: how such parts begin and are joined.
use Rattle.std.proofs.Common.{◌≡◌, ◌∙◌, ℕ, Option, List, [], ◌∷◌, ◌++◌, refl, ap, sym, subst, append_assoc}
use Rattle.std.proofs.lemmas.List.{append-nil}
use Rattle.py_base.specs.declared.diag.Diag.{Diag}
use Rattle.py_base.specs.declared.span.Place.{Place}
use Rattle.edge_io.specs.Stream.{behind}
use Rattle.wire_json.specs.declared.message.WireStep.{WireStep}
use Rattle.wire_json.specs.declared.reply.Out.{Out}
use Rattle.session_core.specs.declared.entry.Entry.{Entry}
use Rattle.session_core.specs.Machine.{State}
use Rattle.session_core.specs.Journal.{Run}
use Rattle.session_core.specs.Calls.{Serving}
use Rattle.serial_server.specs.Bytes.{texts}
use Rattle.serial_server.specs.Parts.{PutsPart, Enters, EntersPart}
use Rattle.serial_server.proofs.Streams.{behind_texts}
use Rattle.serial_server.proofs.Puts.{puts_nothing, puts_behind}

module _ (HasList : List ℕ → List Diag → Type 0) (HasHover : List ℕ → Place → Option (List ℕ) → Type 0) where
  -- ---- runs, one behind another

  pub run_append : (s t u : State) (xs ys : List Entry) (lines more : List WireStep) (outs rest : List Out)
      → Run HasList HasHover s xs lines outs t → Run HasList HasHover t ys more rest u → Run HasList HasHover s (xs ++ ys) (lines ++ more) (outs ++ rest) u
  run_append s t u [] ys lines more outs rest first second = rw (first.0, first.1) (subst (λ (a : State). Run HasList HasHover a ys more rest u) first.2 second)
  run_append s t u (x ∷ xs) ys lines more outs rest first second = record {
    state = first.state;
    first_lines = first.first_lines;
    first_outs = first.first_outs;
    first = first.first;
    rest_lines = first.rest_lines ++ more;
    rest_outs = first.rest_outs ++ rest;
    rest = run_append first.state t u xs ys first.rest_lines more first.rest_outs rest first.rest second;
    lines_are = ap (λ (ls : List WireStep). ls ++ more) first.lines_are ∙ append_assoc first.first_lines first.rest_lines more;
    outs_are = ap (λ (os : List Out). os ++ rest) first.outs_are ∙ append_assoc first.first_outs first.rest_outs rest;
  }

  -- ---- entries

  -- none was made
  pub enters_nothing : (entries : List Entry) (old new : Serving) (w : Option (List ℕ)) → new.journal ≡ old.journal → EntersPart HasList HasHover entries [] old new w w
  enters_nothing entries old new w kept = record {
    done = [];
    undone = entries;
    entries_are = refl;
    outs = [];
    state = old.state;
    run = (refl, refl, refl);
    journal = kept ∙ sym (append-nil old.journal);
    put = puts_nothing [] w;
  }

  -- all were, and some first bytes of their replies were written
  pub enters_all : (entries : List Entry) (lines : List WireStep) (outs : List Out) (old new : Serving) (w w' : Option (List ℕ)) → Run HasList HasHover old.state entries lines outs new.state → new.journal ≡ old.journal ++ entries → PutsPart outs w w' → EntersPart HasList HasHover entries lines old new w w'
  enters_all entries lines outs old new w w' run journal put = record { done = entries; undone = []; entries_are = sym (append-nil entries); outs = outs; state = new.state; run = run; journal = journal; put = put }

  -- some first of more entries
  pub enters_first : (entries more : List Entry) (lines : List WireStep) (old new : Serving) (w w' : Option (List ℕ)) → EntersPart HasList HasHover entries lines old new w w' → EntersPart HasList HasHover (entries ++ more) lines old new w w'
  enters_first entries more lines old new w w' part = record {
    done = part.done;
    undone = part.undone ++ more;
    entries_are = ap (λ (es : List Entry). es ++ more) part.entries_are ∙ append_assoc part.done part.undone more;
    outs = part.outs;
    state = part.state;
    run = part.run;
    journal = part.journal;
    put = part.put;
  }

  -- all of the first, and all of those behind them
  pub enters_both : (xs ys : List Entry) (lines more : List WireStep) (old mid new : Serving) (w v u : Option (List ℕ)) → Enters HasList HasHover xs lines old mid w v → Enters HasList HasHover ys more mid new v u → Enters HasList HasHover (xs ++ ys) (lines ++ more) old new w u
  enters_both xs ys lines more old mid new w v u first second = record {
    outs = first.outs ++ second.outs;
    run = run_append old.state mid.state new.state xs ys lines more first.outs second.outs first.run second.run;
    journal = second.journal ∙ ap (λ (es : List Entry). es ++ ys) first.journal ∙ append_assoc old.journal xs ys;
    written_is = second.written_is ∙ ap (λ (x : Option (List ℕ)). behind x (texts second.outs)) first.written_is ∙ behind_texts w first.outs second.outs;
  }

  -- all of the first, and some of those behind them
  pub enters_then : (xs ys : List Entry) (lines more : List WireStep) (old mid new : Serving) (w v u : Option (List ℕ)) → Enters HasList HasHover xs lines old mid w v → EntersPart HasList HasHover ys more mid new v u → EntersPart HasList HasHover (xs ++ ys) (lines ++ more) old new w u
  enters_then xs ys lines more old mid new w v u first second = record {
    done = xs ++ second.done;
    undone = second.undone;
    entries_are = ap (λ (es : List Entry). xs ++ es) second.entries_are ∙ sym (append_assoc xs second.done second.undone);
    outs = first.outs ++ second.outs;
    state = second.state;
    run = run_append old.state mid.state second.state xs second.done lines more first.outs second.outs first.run second.run;
    journal = second.journal ∙ ap (λ (es : List Entry). es ++ second.done) first.journal ∙ append_assoc old.journal xs second.done;
    put = puts_behind first.outs second.outs w v u first.written_is second.put;
  }
