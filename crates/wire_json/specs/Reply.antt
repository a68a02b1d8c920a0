-- What the session writes: compact JSON (RFC 8259) with the keys in the order of their bytes, one reply
-- a line, each ended by an LF.
use Rattle.std.specs.Prelude.{ℕ, List, [], ◌∷◌, ◌++◌, Option, Some, None, map, codes}
use Rattle.serde_json.specs.Data.{Data, object, Members, member, no_members, array, string, number, unsigned, null}
use Rattle.serde_json.specs.View.{items_of}
use Rattle.serde_json.specs.Written.{compact_text}
use Rattle.py_base.specs.declared.diag.Diag.{Diag}
use Rattle.py_base.specs.RuleName.{rule_name}
use Rattle.wire_json.specs.declared.message.LineRefusal.{LineRefusal}
use Rattle.wire_json.specs.declared.message.LineRefusal.TheVariants.{Oversize, BadJson, BadField, UnknownOp}
use Rattle.wire_json.specs.declared.reply.By.{By}
use Rattle.wire_json.specs.declared.reply.By.TheVariants.{Request, Edit}
use Rattle.wire_json.specs.declared.reply.SessionRefusal.{SessionRefusal}
use Rattle.wire_json.specs.declared.reply.SessionRefusal.TheVariants.{UnknownFile, AlreadyOpen, StaleVersion, TooManyFiles, IdInUse, TooManyRequests}
use Rattle.wire_json.specs.declared.reply.Refusal.{Refusal}
use Rattle.wire_json.specs.declared.reply.Refusal.TheVariants.{Line, Session}
use Rattle.wire_json.specs.declared.reply.Out.{Out}
use Rattle.wire_json.specs.declared.reply.Out.TheVariants.{Listed, Hovered, Checked, Cancelled, Unanswered, Unlisted, Refused}

abbrev pub natural : ℕ → Data
natural n = number (unsigned n)

-- ---- lists

-- {"at":[line,column,end line,end column],"rule":R,"text":T}
abbrev pub diag_data : Diag → Data
diag_data diag = object (
    member (codes "at") (array (items_of (map natural diag.at))) (
    member (codes "rule") (string (rule_name diag.rule)) (
    member (codes "text") (string diag.text) no_members)))

abbrev pub diags_data : List Diag → Data
diags_data list = array (items_of (map diag_data list))

-- {"file":F,"kind":"list","list":[D],"version":V}
abbrev pub list_data : List ℕ → List Diag → ℕ → Data
list_data file list version = object (
    member (codes "file") (string file) (
    member (codes "kind") (string (codes "list")) (
    member (codes "list") (diags_data list) (
    member (codes "version") (natural version) no_members))))

-- {"file":F,"kind":"nomemory","version":V}
abbrev pub unlisted_data : List ℕ → ℕ → Data
unlisted_data file version = object (
    member (codes "file") (string file) (
    member (codes "kind") (string (codes "nomemory")) (
    member (codes "version") (natural version) no_members)))

-- ---- answers

-- the text of a type, or null for none
abbrev pub type_data : Option (List ℕ) → Data
type_data None = null
type_data (Some type) = string type

-- {"id":N,"kind":"hover","type":T,"version":V}
abbrev pub hover_data : ℕ → Option (List ℕ) → ℕ → Data
hover_data id type version = object (
    member (codes "id") (natural id) (
    member (codes "kind") (string (codes "hover")) (
    member (codes "type") (type_data type) (
    member (codes "version") (natural version) no_members))))

-- {"id":N,"kind":"check","list":[D],"version":V}
abbrev pub check_data : ℕ → List Diag → ℕ → Data
check_data id list version = object (
    member (codes "id") (natural id) (
    member (codes "kind") (string (codes "check")) (
    member (codes "list") (diags_data list) (
    member (codes "version") (natural version) no_members))))

abbrev pub by_name : By → List ℕ
by_name Request = codes "request"
by_name Edit = codes "edit"

-- {"by":"request","id":N,"kind":"cancelled"} or "by":"edit"
abbrev pub cancelled_data : By → ℕ → Data
cancelled_data by id = object (
    member (codes "by") (string (by_name by)) (
    member (codes "id") (natural id) (
    member (codes "kind") (string (codes "cancelled")) no_members)))

-- {"id":N,"kind":"nomemory"}
abbrev pub unanswered_data : ℕ → Data
unanswered_data id = object (
    member (codes "id") (natural id) (
    member (codes "kind") (string (codes "nomemory")) no_members))

-- ---- refusals

-- {"kind":"refused","line":K,"name":S,"number":N}
abbrev pub refused_members : ℕ → List ℕ → ℕ → Members
refused_members line name refusal =
    member (codes "kind") (string (codes "refused")) (
    member (codes "line") (natural line) (
    member (codes "name") (string name) (
    member (codes "number") (natural refusal) no_members)))

-- a refusal of a field has the field's name as its first key
abbrev pub line_refused_data : ℕ → LineRefusal → Data
line_refused_data line BadJson = object (refused_members line (codes "BadJson") 1)
line_refused_data line (BadField field) = object (member (codes "field") (string field) (refused_members line (codes "BadField") 2))
line_refused_data line UnknownOp = object (refused_members line (codes "UnknownOp") 3)
line_refused_data line Oversize = object (refused_members line (codes "Oversize") 4)

-- a refusal of a version has the open one as its first key
abbrev pub session_refused_data : ℕ → SessionRefusal → Data
session_refused_data line UnknownFile = object (refused_members line (codes "UnknownFile") 5)
session_refused_data line AlreadyOpen = object (refused_members line (codes "AlreadyOpen") 6)
session_refused_data line (StaleVersion have) = object (member (codes "have") (natural have) (refused_members line (codes "StaleVersion") 7))
session_refused_data line TooManyFiles = object (refused_members line (codes "TooManyFiles") 8)
session_refused_data line IdInUse = object (refused_members line (codes "IdInUse") 9)
session_refused_data line TooManyRequests = object (refused_members line (codes "TooManyRequests") 10)

abbrev pub refused_data : ℕ → Refusal → Data
refused_data line (Line refusal) = line_refused_data line refusal
refused_data line (Session refusal) = session_refused_data line refusal

-- ---- replies

abbrev pub reply_data : Out → Data
reply_data (Listed file list version) = list_data file list version
reply_data (Hovered id type version) = hover_data id type version
reply_data (Checked id list version) = check_data id list version
reply_data (Cancelled by id) = cancelled_data by id
reply_data (Unanswered id) = unanswered_data id
reply_data (Unlisted file version) = unlisted_data file version
reply_data (Refused line refusal) = refused_data line refusal

-- the value as a line
abbrev pub line_of : Data → List ℕ
line_of value = compact_text value ++ 10 ∷ []

-- the bytes of a reply
unfoldable pub reply_text : Out → List ℕ
reply_text out = line_of (reply_data out)
