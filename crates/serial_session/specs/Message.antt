-- What a line of a session says: a message, or the reason why it is none.
-- The text of a line is JSON as RFC 8259 has it, read by `serde_json`.
use Rattle.std.specs.Prelude.{ℕ, List, Bool, ◌&&◌, nat_lt, nat_le, if◌then◌else◌, Option, Some, None, Result, Ok, Err, option_and_then, length, codes}
use Rattle.std.specs.Str.{bytes_eq, is_utf8}
use Rattle.serde_json.specs.Data.{Data}
use Rattle.serde_json.specs.Read.{read}
use Rattle.serde_json.specs.Find.{get, as_str, as_number, as_u64}
use Rattle.edge_io.specs.Line.{line_limit}
use Rattle.serial_session.specs.declared.message.Msg.{Msg}
use Rattle.serial_session.specs.declared.message.Msg.TheVariants.{Open, End}
use Rattle.serial_session.specs.declared.message.LineRefusal.{LineRefusal}
use Rattle.serial_session.specs.declared.message.LineRefusal.TheVariants.{BadJson, BadField, UnknownOp}

-- the member of this name, where it is a string
abbrev pub string_at : List ℕ → Data → Option (List ℕ)
string_at key value = option_and_then as_str (get key value)

-- the value, where it passes the test
abbrev pub where_it : {A : Type 0} → (A → Bool) → Option A → Option A
where_it test None = None
where_it test (Some x) = if test x then Some x else None

-- a file is named by a string of 1 to 4,096 bytes
abbrev pub file_at : Data → Option (List ℕ)
file_at value = where_it (λ name. nat_lt 0 (length name) && nat_le (length name) 4096) (string_at (codes "file") value)

-- a number is one whose `as_u64` is from 0 to 4,294,967,295
abbrev pub number_at : List ℕ → Data → Option ℕ
number_at key value = where_it (λ n. nat_le n 4294967295) (option_and_then as_u64 (option_and_then as_number (get key value)))

-- the fields of `open`, tested in the order file, version, text; the first that is missing or of another form is named
abbrev pub open_with_text : List ℕ → ℕ → Option (List ℕ) → Result Msg LineRefusal
open_with_text file version None = Err (BadField (codes "text"))
open_with_text file version (Some text) = Ok (Open file version text)

abbrev pub open_with_version : Data → List ℕ → Option ℕ → Result Msg LineRefusal
open_with_version value file None = Err (BadField (codes "version"))
open_with_version value file (Some version) = open_with_text file version (string_at (codes "text") value)

abbrev pub open_with_file : Data → Option (List ℕ) → Result Msg LineRefusal
open_with_file value None = Err (BadField (codes "file"))
open_with_file value (Some file) = open_with_version value file (number_at (codes "version") value)

-- the operation decides which fields are asked for
abbrev pub with_operation : Data → Option (List ℕ) → Result Msg LineRefusal
with_operation value None = Err (BadField (codes "op"))
with_operation value (Some op) =
    if bytes_eq op (codes "open") then open_with_file value (file_at value)
    else (if bytes_eq op (codes "end") then Ok End
    else Err UnknownOp)

abbrev pub message_of : Option Data → Result Msg LineRefusal
message_of None = Err BadJson
message_of (Some value) = with_operation value (string_at (codes "op") value)

-- What the bytes of a line say. A line above the limit and bytes that are no text have no reading as JSON.
unfoldable pub read_message : List ℕ → Result Msg LineRefusal
read_message line = if nat_lt line_limit (length line) then Err BadJson else (if is_utf8 line then message_of (read line) else Err BadJson)
