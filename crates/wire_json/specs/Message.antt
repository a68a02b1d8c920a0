-- What a line of a session says: a message, or the reason why it is none.
-- The text of a line is JSON as RFC 8259 has it, read by `serde_json`.
use Rattle.std.specs.Prelude.{ℕ, List, Bool, ◌&&◌, nat_lt, nat_le, if◌then◌else◌, Option, Some, None, Result, Ok, Err, option_and_then, length, codes}
use Rattle.std.specs.Str.{bytes_eq, is_utf8}
use Rattle.serde_json.specs.Data.{Data}
use Rattle.serde_json.specs.Read.{read}
use Rattle.serde_json.specs.Find.{get, as_str, as_number, as_u64}
use Rattle.edge_io.specs.Line.{line_limit}
use Rattle.wire_json.specs.declared.message.Msg.{Msg}
use Rattle.wire_json.specs.declared.message.Msg.TheVariants.{Open, Edit, Close, Hover, Check, Cancel, End}
use Rattle.wire_json.specs.declared.message.LineRefusal.{LineRefusal}
use Rattle.wire_json.specs.declared.message.LineRefusal.TheVariants.{Oversize, BadJson, BadField, UnknownOp}

-- ---- fields

-- the member of this name, where it is a string
abbrev pub string_at : List ℕ → Data → Option (List ℕ)
string_at key value = option_and_then as_str (get key value)

-- the value, where it passes the test
abbrev pub where_it : {A : Type 0} → (A → Bool) → Option A → Option A
where_it test None = None
where_it test (Some x) = if test x then Some x else None

-- a file is named by a string of 1 to 4,096 bytes
abbrev pub file_at : Data → Option (List ℕ)
file_at value = where_it (λ name. nat_lt 0 (length name) && nat_le (length name) 4096) (string_at (codes "file") value)

-- a number is one whose `as_u64` is from 0 to 4,294,967,295
abbrev pub number_at : List ℕ → Data → Option ℕ
number_at key value = where_it (λ n. nat_le n 4294967295) (option_and_then as_u64 (option_and_then as_number (get key value)))

-- a field that is missing or of another form is named
abbrev pub with_field : {A B : Type 0} → List ℕ → Option A → (A → Result B LineRefusal) → Result B LineRefusal
with_field key None next = Err (BadField key)
with_field key (Some x) next = next x

-- ---- operations, with their fields in the order in which they are tested

abbrev pub open_of : Data → Result Msg LineRefusal
open_of value =
    with_field (codes "file") (file_at value) (λ file.
    with_field (codes "version") (number_at (codes "version") value) (λ version.
    with_field (codes "text") (string_at (codes "text") value) (λ text.
    Ok (Open file version text))))

abbrev pub edit_of : Data → Result Msg LineRefusal
edit_of value =
    with_field (codes "file") (file_at value) (λ file.
    with_field (codes "version") (number_at (codes "version") value) (λ version.
    with_field (codes "text") (string_at (codes "text") value) (λ text.
    Ok (Edit file version text))))

abbrev pub close_of : Data → Result Msg LineRefusal
close_of value = with_field (codes "file") (file_at value) (λ file. Ok (Close file))

abbrev pub hover_of : Data → Result Msg LineRefusal
hover_of value =
    with_field (codes "id") (number_at (codes "id") value) (λ id.
    with_field (codes "file") (file_at value) (λ file.
    with_field (codes "line") (number_at (codes "line") value) (λ line.
    with_field (codes "col") (number_at (codes "col") value) (λ col.
    Ok (Hover id file (record { line = line; col = col }))))))

abbrev pub check_of : Data → Result Msg LineRefusal
check_of value =
    with_field (codes "id") (number_at (codes "id") value) (λ id.
    with_field (codes "file") (file_at value) (λ file.
    Ok (Check id file)))

abbrev pub cancel_of : Data → Result Msg LineRefusal
cancel_of value = with_field (codes "id") (number_at (codes "id") value) (λ id. Ok (Cancel id))

-- ---- lines

-- the operation decides which fields are asked for
abbrev pub operation_of : List ℕ → Data → Result Msg LineRefusal
operation_of op value =
    if bytes_eq op (codes "open") then open_of value
    else (if bytes_eq op (codes "edit") then edit_of value
    else (if bytes_eq op (codes "close") then close_of value
    else (if bytes_eq op (codes "hover") then hover_of value
    else (if bytes_eq op (codes "check") then check_of value
    else (if bytes_eq op (codes "cancel") then cancel_of value
    else (if bytes_eq op (codes "end") then Ok End
    else Err UnknownOp))))))

abbrev pub message_of : Option Data → Result Msg LineRefusal
message_of None = Err BadJson
message_of (Some value) = with_field (codes "op") (string_at (codes "op") value) (λ op. operation_of op value)

-- What the bytes of a line say. Bytes that are no text have no reading as JSON.
unfoldable pub read_message : List ℕ → Result Msg LineRefusal
read_message line = if nat_lt line_limit (length line) then Err Oversize else (if is_utf8 line then message_of (read line) else Err BadJson)
