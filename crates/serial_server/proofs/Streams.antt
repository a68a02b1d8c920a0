-- What is left and what is written, over several calls.
use Rattle.std.proofs.Common.{◌≡◌, List, ℕ, [], ◌++◌, Option, Some, None, refl, ap, sym, append_assoc, ◌∙◌}
use Rattle.std.proofs.lemmas.List.{append-nil}
use Rattle.std.proofs.lemmas.Grind.{flat_map-append}
use Rattle.edge_io.specs.Stream.{before, behind}
use Rattle.wire_json.specs.declared.reply.Out.{Out}
use Rattle.wire_json.specs.Reply.{reply_text}
use Rattle.serial_server.specs.Bytes.{texts}

pub before-before : (xs ys : List ℕ) (left : Option (List ℕ)) → before xs (before ys left) ≡ before (xs ++ ys) left
before-before xs ys None = refl
before-before xs ys (Some rest) = ap Some (sym (append_assoc xs ys rest))

pub before-nil : (left : Option (List ℕ)) → before [] left ≡ left
before-nil None = refl
before-nil (Some rest) = refl

pub behind-behind : (written : Option (List ℕ)) (xs ys : List ℕ) → behind (behind written xs) ys ≡ behind written (xs ++ ys)
behind-behind None xs ys = refl
behind-behind (Some bytes) xs ys = ap Some (append_assoc bytes xs ys)

pub behind-nil : (written : Option (List ℕ)) → behind written [] ≡ written
behind-nil None = refl
behind-nil (Some bytes) = ap Some (append-nil bytes)

pub texts_append : (xs ys : List Out) → texts (xs ++ ys) ≡ texts xs ++ texts ys
texts_append xs ys = flat_map-append reply_text xs ys

-- the bytes of some replies behind those of others
pub behind_texts : (written : Option (List ℕ)) (xs ys : List Out) → behind (behind written (texts xs)) (texts ys) ≡ behind written (texts (xs ++ ys))
behind_texts written xs ys = behind-behind written (texts xs) (texts ys) ∙ ap (behind written) (sym (texts_append xs ys))
