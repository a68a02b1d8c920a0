-- Some first steps were taken: how such parts begin and are joined.
use Rattle.std.proofs.Common.{◌≡◌, ◌∙◌, ℕ, Option, List, [], ◌∷◌, ◌++◌, refl, ap, sym, append_assoc, take, drop}
use Rattle.std.proofs.lemmas.List.{append-nil, take-append-drop}
use Rattle.std.proofs.lemmas.Grind.{flat_map-append}
use Rattle.edge_io.specs.Stream.{behind}
use Rattle.serial_session.proofs.Streams.{behind-behind, behind-nil}
use Rattle.serial_session.specs.declared.entry.Entry.{Entry}
use Rattle.serial_session.specs.Steps.{Step, step_of, entries_of, texts_of, Partly}

pub entries_of-append : (xs ys : List Step) → entries_of (xs ++ ys) ≡ entries_of xs ++ entries_of ys
entries_of-append [] ys = refl
entries_of-append (x ∷ xs) ys = ap (λ es. x.entry ∷ es) (entries_of-append xs ys)

pub texts_of-append : (xs ys : List Step) → texts_of (xs ++ ys) ≡ texts_of xs ++ texts_of ys
texts_of-append xs ys = flat_map-append (λ step. step.text) xs ys

-- none was taken
pub partly_none : (steps : List Step) (old new : List Entry) (w : Option (List ℕ)) → new ≡ old → Partly steps old new w w
partly_none steps old new w same = record {
  done = [];
  undone = steps;
  steps_are = refl;
  journal = same ∙ sym (append-nil old);
  put = [];
  unput = [];
  text_is = refl;
  written_is = sym (behind-nil w);
}

-- one was, and some first bytes of its text were put
pub partly_within : (entry : Entry) (text : List ℕ) (n : ℕ) (old new : List Entry) (w w' : Option (List ℕ)) → new ≡ old ++ entry ∷ [] → w' ≡ behind w (take n text)
    → Partly (step_of entry text ∷ []) old new w w'
partly_within entry text n old new w w' noted put = record {
  done = step_of entry text ∷ [];
  undone = [];
  steps_are = refl;
  journal = noted;
  put = take n text;
  unput = drop n text;
  text_is = append-nil text ∙ sym (take-append-drop n text);
  written_is = put;
}

-- the first steps were taken, and some of those behind them
pub partly_then : (first more : List Step) (old now new : List Entry) (w v u : Option (List ℕ)) → now ≡ old ++ entries_of first → v ≡ behind w (texts_of first) → Partly more now new v u → Partly (first ++ more) old new w u
partly_then first more old now new w v u noted put rest = record {
  done = first ++ rest.done;
  undone = rest.undone;
  steps_are = ap (λ xs. first ++ xs) rest.steps_are ∙ sym (append_assoc first rest.done rest.undone);
  journal = rest.journal ∙ (ap (λ xs. xs ++ entries_of rest.done) noted ∙ (append_assoc old (entries_of first) (entries_of rest.done) ∙ ap (λ xs. old ++ xs) (sym (entries_of-append first rest.done))));
  put = texts_of first ++ rest.put;
  unput = rest.unput;
  text_is = texts_of-append first rest.done ∙ (ap (λ xs. texts_of first ++ xs) rest.text_is ∙ sym (append_assoc (texts_of first) rest.put rest.unput));
  written_is = rest.written_is ∙ (ap (λ x. behind x rest.put) put ∙ behind-behind w (texts_of first) rest.put);
}

-- some of the first steps were taken
pub partly_first : (first more : List Step) (old new : List Entry) (w u : Option (List ℕ)) → Partly first old new w u → Partly (first ++ more) old new w u
partly_first first more old new w u part = record {
  done = part.done;
  undone = part.undone ++ more;
  steps_are = ap (λ xs. xs ++ more) part.steps_are ∙ append_assoc part.done part.undone more;
  journal = part.journal;
  put = part.put;
  unput = part.unput;
  text_is = part.text_is;
  written_is = part.written_is;
}

-- nothing was done
pub partly_nothing : (steps : List Step) (old : List Entry) (w : Option (List ℕ)) → Partly steps old old w w
partly_nothing steps old w = partly_none steps old old w refl

-- of two steps, some of the first were taken
pub partly_one : (a b : Step) (old new : List Entry) (w u : Option (List ℕ)) → Partly (a ∷ []) old new w u → Partly (a ∷ b ∷ []) old new w u
partly_one a b old new w u part = partly_first (a ∷ []) (b ∷ []) old new w u part

-- of two steps the first was taken, and some of the second
pub partly_two : (a b : Step) (old now new : List Entry) (w v u : Option (List ℕ)) → now ≡ old ++ a.entry ∷ [] → v ≡ behind w a.text → Partly (b ∷ []) now new v u → Partly (a ∷ b ∷ []) old new w u
partly_two a b old now new w v u noted put rest = partly_then (a ∷ []) (b ∷ []) old now new w v u noted (put ∙ ap (behind w) (sym (append-nil a.text))) rest
