-- No reply has a float, so each has a text.
use Rattle.std.proofs.Common.{◌≡◌, ℕ, false, List, [], ◌∷◌, Option, Some, None, map, refl}
use Rattle.serde_json.specs.View.{items_of}
use Rattle.serde_json.specs.Written.{has_float, items_have_float}
use Rattle.py_base.specs.declared.diag.Diag.{Diag}
use Rattle.wire_json.specs.declared.message.LineRefusal.{LineRefusal}
use Rattle.wire_json.specs.declared.message.LineRefusal.TheVariants.{Oversize, BadJson, BadField, UnknownOp}
use Rattle.wire_json.specs.declared.reply.SessionRefusal.{SessionRefusal}
use Rattle.wire_json.specs.declared.reply.SessionRefusal.TheVariants.{UnknownFile, AlreadyOpen, StaleVersion, TooManyFiles, IdInUse, TooManyRequests}
use Rattle.wire_json.specs.declared.reply.Refusal.TheVariants.{Line, Session}
use Rattle.wire_json.specs.declared.reply.Out.{Out}
use Rattle.wire_json.specs.declared.reply.Out.TheVariants.{Listed, Hovered, Checked, Cancelled, Unanswered, Unlisted, Refused}
use Rattle.wire_json.specs.Reply.{natural, diag_data, type_data, line_refused_data, session_refused_data, reply_data}

numbers_have_no_float : (ns : List ℕ) → items_have_float (items_of (map natural ns)) ≡ false
numbers_have_no_float [] = refl
numbers_have_no_float (n ∷ ns) = numbers_have_no_float ns

diag_has_no_float : (diag : Diag) → has_float (diag_data diag) ≡ false
diag_has_no_float diag = rw (numbers_have_no_float diag.at) refl

diags_have_no_float : (list : List Diag) → items_have_float (items_of (map diag_data list)) ≡ false
diags_have_no_float [] = refl
diags_have_no_float (diag ∷ list) = rw (diag_has_no_float diag, diags_have_no_float list) refl

type_has_no_float : (type : Option (List ℕ)) → has_float (type_data type) ≡ false
type_has_no_float None = refl
type_has_no_float (Some type) = refl

line_refused_has_no_float : (line : ℕ) (refusal : LineRefusal) → has_float (line_refused_data line refusal) ≡ false
line_refused_has_no_float line BadJson = refl
line_refused_has_no_float line (BadField field) = refl
line_refused_has_no_float line UnknownOp = refl
line_refused_has_no_float line Oversize = refl

session_refused_has_no_float : (line : ℕ) (refusal : SessionRefusal) → has_float (session_refused_data line refusal) ≡ false
session_refused_has_no_float line UnknownFile = refl
session_refused_has_no_float line AlreadyOpen = refl
session_refused_has_no_float line (StaleVersion have) = refl
session_refused_has_no_float line TooManyFiles = refl
session_refused_has_no_float line IdInUse = refl
session_refused_has_no_float line TooManyRequests = refl

pub reply_has_no_float : (out : Out) → has_float (reply_data out) ≡ false
reply_has_no_float (Listed file list version) = rw (diags_have_no_float list) refl
reply_has_no_float (Hovered id type version) = rw (type_has_no_float type) refl
reply_has_no_float (Checked id list version) = rw (diags_have_no_float list) refl
reply_has_no_float (Cancelled by id) = refl
reply_has_no_float (Unanswered id) = refl
reply_has_no_float (Unlisted file version) = refl
reply_has_no_float (Refused line (Line refusal)) = line_refused_has_no_float line refusal
reply_has_no_float (Refused line (Session refusal)) = session_refused_has_no_float line refusal
