-- What the session writes: compact JSON (RFC 8259) with the keys in the order of their bytes, one reply
-- a line, each ended by an LF.
use Rattle.std.specs.Prelude.{ℕ, List, [], ◌∷◌, ◌++◌, map, codes}
use Rattle.serde_json.specs.Data.{Data, object, Members, member, no_members, array, string, number, unsigned}
use Rattle.serde_json.specs.View.{items_of}
use Rattle.serde_json.specs.Written.{compact_text}
use Rattle.py_base.specs.declared.diag.Diag.{Diag}
use Rattle.py_base.specs.RuleName.{rule_name}
use Rattle.serial_session.specs.declared.message.LineRefusal.{LineRefusal}
use Rattle.serial_session.specs.declared.message.LineRefusal.TheVariants.{BadJson, BadField, UnknownOp}
use Rattle.serial_session.specs.declared.reply.Out.{Out}
use Rattle.serial_session.specs.declared.reply.Out.TheVariants.{Listed, Refused}

abbrev pub natural : ℕ → Data
natural n = number (unsigned n)

-- {"at":[line,column,end line,end column],"rule":R,"text":T}
abbrev pub diag_data : Diag → Data
diag_data diag = object (
    member (codes "at") (array (items_of (map natural diag.at))) (
    member (codes "rule") (string (rule_name diag.rule)) (
    member (codes "text") (string diag.text) no_members)))

-- {"file":F,"kind":"list","list":[D],"version":V}
abbrev pub list_data : List ℕ → ℕ → List Diag → Data
list_data file version list = object (
    member (codes "file") (string file) (
    member (codes "kind") (string (codes "list")) (
    member (codes "list") (array (items_of (map diag_data list))) (
    member (codes "version") (natural version) no_members))))

-- {"kind":"refused","line":K,"name":S,"number":N}
abbrev pub refused_members : ℕ → List ℕ → ℕ → Members
refused_members line name refusal =
    member (codes "kind") (string (codes "refused")) (
    member (codes "line") (natural line) (
    member (codes "name") (string name) (
    member (codes "number") (natural refusal) no_members)))

-- a refusal of a field has the field's name as its first key
abbrev pub refused_data : ℕ → LineRefusal → Data
refused_data line BadJson = object (refused_members line (codes "BadJson") 1)
refused_data line (BadField field) = object (member (codes "field") (string field) (refused_members line (codes "BadField") 2))
refused_data line UnknownOp = object (refused_members line (codes "UnknownOp") 3)

abbrev pub reply_data : Out → Data
reply_data (Listed file version list) = list_data file version list
reply_data (Refused line refusal) = refused_data line refusal

-- the value as a line
abbrev pub line_of : Data → List ℕ
line_of value = compact_text value ++ 10 ∷ []

-- the bytes of a reply
unfoldable pub reply_text : Out → List ℕ
reply_text out = line_of (reply_data out)

-- ---- replies of requests and workers, which this stage never writes

-- {"id":N,"kind":"check","list":[D],"version":V}
abbrev pub checked_text : ℕ → ℕ → List Diag → List ℕ
checked_text id version list = line_of (object (
    member (codes "id") (natural id) (
    member (codes "kind") (string (codes "check")) (
    member (codes "list") (array (items_of (map diag_data list))) (
    member (codes "version") (natural version) no_members)))))

-- {"id":N,"kind":"nomemory"}
abbrev pub unanswered_text : ℕ → List ℕ
unanswered_text id = line_of (object (
    member (codes "id") (natural id) (
    member (codes "kind") (string (codes "nomemory")) no_members)))

-- {"file":F,"kind":"nomemory","version":V}
abbrev pub unpublished_text : List ℕ → ℕ → List ℕ
unpublished_text file version = line_of (object (
    member (codes "file") (string file) (
    member (codes "kind") (string (codes "nomemory")) (
    member (codes "version") (natural version) no_members))))
