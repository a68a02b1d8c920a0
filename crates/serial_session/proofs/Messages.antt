-- What a line says, where it is a text and where it is none.
use Rattle.std.proofs.Common.{◌≡◌, ◌≤◌, ℕ, true, false, List, length, Err, refl, ap, sym, ◌∙◌}
use Rattle.std.proofs.lemmas.Bool.{le-ltb}
use Rattle.std.proofs.lemmas.Str.{IsUtf8-from_is_utf8, is_utf8-from_IsUtf8}
use Rattle.std.specs.Prelude.{nat_lt}
use Rattle.std.specs.Str.{IsUtf8, is_utf8}
use Rattle.serde_json.specs.Read.{read}
use Rattle.edge_io.specs.Line.{line_limit}
use Rattle.serial_session.specs.declared.message.LineRefusal.TheVariants.{BadJson}
use Rattle.serial_session.specs.Message.{read_message, message_of}

short : (line : List ℕ) → length line ≤ line_limit → nat_lt line_limit (length line) ≡ false
short line within = le-ltb line_limit (length line) within

no_text : (line : List ℕ) → (IsUtf8 line → ⊥) → is_utf8 line ≡ false
no_text line isnt = elim (is_utf8 line) as (λ b. is_utf8 line ≡ b → b ≡ false) [ true ↦ λ is. absurd (isnt (IsUtf8-from_is_utf8 line is)) | false ↦ λ _. refl ] refl

-- of bytes that are a text it is what their JSON says
pub read_message-text : (line : List ℕ) → length line ≤ line_limit → IsUtf8 line → read_message line ≡ message_of (read line)
unfolding read_message
read_message-text line within is = rw (short line within, is_utf8-from_IsUtf8 line is) refl

-- bytes that are no text have no reading
pub read_message-no_text : (line : List ℕ) → length line ≤ line_limit → (IsUtf8 line → ⊥) → read_message line ≡ Err BadJson
unfolding read_message
read_message-no_text line within isnt = rw (short line within, no_text line isnt) refl

-- of a text that is the line's it is what its JSON says
pub message_of-text : (line text : List ℕ) → text ≡ line → length line ≤ line_limit → IsUtf8 line → message_of (read text) ≡ read_message line
message_of-text line text same within is = ap (λ bytes. message_of (read bytes)) same ∙ sym (read_message-text line within is)
