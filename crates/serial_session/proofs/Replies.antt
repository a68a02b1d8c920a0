-- No reply has a float, so each has a text.
use Rattle.std.proofs.Common.{◌≡◌, ℕ, false, List, [], ◌∷◌, map, refl}
use Rattle.serde_json.specs.View.{items_of}
use Rattle.serde_json.specs.Written.{has_float, items_have_float}
use Rattle.py_base.specs.declared.diag.Diag.{Diag}
use Rattle.serial_session.specs.declared.message.LineRefusal.TheVariants.{BadJson, BadField, UnknownOp}
use Rattle.serial_session.specs.declared.reply.Out.{Out}
use Rattle.serial_session.specs.declared.reply.Out.TheVariants.{Listed, Refused}
use Rattle.serial_session.specs.Reply.{natural, diag_data, reply_data}

numbers_have_no_float : (ns : List ℕ) → items_have_float (items_of (map natural ns)) ≡ false
numbers_have_no_float [] = refl
numbers_have_no_float (n ∷ ns) = numbers_have_no_float ns

diag_has_no_float : (diag : Diag) → has_float (diag_data diag) ≡ false
diag_has_no_float diag = rw (numbers_have_no_float diag.at) refl

diags_have_no_float : (list : List Diag) → items_have_float (items_of (map diag_data list)) ≡ false
diags_have_no_float [] = refl
diags_have_no_float (diag ∷ list) = rw (diag_has_no_float diag, diags_have_no_float list) refl

pub reply_has_no_float : (out : Out) → has_float (reply_data out) ≡ false
reply_has_no_float (Listed file version list) = rw (diags_have_no_float list) refl
reply_has_no_float (Refused line BadJson) = refl
reply_has_no_float (Refused line (BadField field)) = refl
reply_has_no_float (Refused line UnknownOp) = refl
