-- Replies of which some first bytes were written.
use Rattle.std.proofs.Common.{◌≡◌, ◌∙◌, ℕ, ◌+◌, ◌<◌, Option, List, [], ◌∷◌, ◌++◌, length, take, drop, get_or, refl, ap, sym, subst, append_assoc}
use Rattle.std.proofs.lemmas.List.{append-nil, take-append-drop, take_more, drop_more}
use Rattle.edge_io.specs.Stream.{behind}
use Rattle.wire_json.specs.declared.reply.Out.{Out}
use Rattle.wire_json.specs.Reply.{reply_text}
use Rattle.serial_server.specs.Bytes.{texts}
use Rattle.serial_server.specs.Parts.{PutsPart}
use Rattle.serial_server.proofs.Streams.{behind-behind, behind-nil, texts_append, behind_texts}

-- none was
pub puts_nothing : (outs : List Out) (w : Option (List ℕ)) → PutsPart outs w w
puts_nothing outs w = record { put = []; unput = texts outs; text_is = refl; written_is = sym (behind-nil w) }

-- some first bytes of one
pub puts_within : (out : Out) (n : ℕ) (w w' : Option (List ℕ)) → w' ≡ behind w (take n (reply_text out)) → PutsPart (out ∷ []) w w'
puts_within out n w w' is = record {
  put = take n (reply_text out);
  unput = drop n (reply_text out);
  text_is = append-nil (reply_text out) ∙ sym (take-append-drop n (reply_text out));
  written_is = is;
}

-- all of some, and some first bytes of those behind them
pub puts_behind : (outs more : List Out) (w v u : Option (List ℕ)) → v ≡ behind w (texts outs) → PutsPart more v u → PutsPart (outs ++ more) w u
puts_behind outs more w v u is part = record {
  put = texts outs ++ part.put;
  unput = part.unput;
  text_is = texts_append outs more ∙ ap (λ xs. texts outs ++ xs) part.text_is ∙ sym (append_assoc (texts outs) part.put part.unput);
  written_is = part.written_is ∙ ap (λ x. behind x part.put) is ∙ behind-behind w (texts outs) part.put;
}

-- some first bytes of the first
pub puts_first : (outs more : List Out) (w u : Option (List ℕ)) → PutsPart outs w u → PutsPart (outs ++ more) w u
puts_first outs more w u part = record {
  put = part.put;
  unput = part.unput ++ texts more;
  text_is = texts_append outs more ∙ ap (λ xs. xs ++ texts more) part.text_is ∙ append_assoc part.put part.unput (texts more);
  written_is = part.written_is;
}

-- ---- one after another

module _ (outs : List Out) (i : ℕ) (out : Out) (within : i < length outs) (is : out ≡ get_or outs i out) (w v u : Option (List ℕ)) (so_far : v ≡ behind w (texts (take i outs))) where
  pub puts_one_more : u ≡ behind v (reply_text out) → u ≡ behind w (texts (take (i + 1) outs))
  puts_one_more put =
      put ∙ ap (λ x. behind x (reply_text out)) so_far ∙ ap (behind (behind w (texts (take i outs)))) (sym (append-nil (reply_text out)))
      ∙ behind_texts w (take i outs) (out ∷ [])
      ∙ ap (λ xs. behind w (texts xs)) (ap (λ x. take i outs ++ x ∷ []) is ∙ sym (take_more outs i out within))

  pub puts_up_to : PutsPart (out ∷ []) v u → PutsPart outs w u
  puts_up_to part =
      let all : take i outs ++ (out ∷ drop (i + 1) outs) ≡ outs = ap (λ x. take i outs ++ (x ∷ drop (i + 1) outs)) is ∙ ap (λ xs. take i outs ++ xs) (sym (drop_more outs i out within)) ∙ take-append-drop i outs in
      subst (λ xs. PutsPart xs w u) all (puts_behind (take i outs) (out ∷ drop (i + 1) outs) w v u so_far (puts_first (out ∷ []) (drop (i + 1) outs) v u part))
