-- The value of a string literal: its characters with their escapes, as a string or as bytes.
-- Python 3.12 language reference, 2.4.1 "String and Bytes literals".
use Rattle.std.specs.Prelude.{◌≡◌, ℕ, suc, zero, ◌-◌, ◌%◌, Bool, true, false, ◌&&◌, ◌||◌, List, [], ◌∷◌, ◌++◌, length, take, drop, map, Option, Some, None, if◌then◌else◌, ◌==◌, nat_lt, slice_index, encode_utf8_all}
use Rattle.std.specs.List.{list_all}
use Rattle.py_tokens.specs.Strings.{string_opening, closing_len, is_letter}
use Rattle.py_tokens.specs.Escapes.{escape_at}
use Rattle.py_tokens.specs.declared.escapes.Escape.{Escape}
use Rattle.py_tokens.specs.declared.escapes.Escape.TheVariants.{Joined, Char, Kept, Unknown}
use Rattle.py_tokens.specs.declared.strings.Opening.{Opening}
use Rattle.py_tokens.specs.declared.literals.StringValue.{StringValue}
use Rattle.py_tokens.specs.declared.literals.StringValue.TheVariants.{Text, UnknownText, Bytes, UnknownBytes, NotAscii}

-- what an escape stands for, if that is known, and how many characters it takes behind its backslash
abbrev pub escape_text : Escape → Option (List ℕ)
escape_text (Joined len) = Some []
escape_text (Char c len) = Some (c ∷ [])
escape_text Kept = Some (92 ∷ [])
escape_text Unknown = None

abbrev pub escape_len : Escape → ℕ
escape_len (Joined len) = len
escape_len (Char c len) = len
escape_len Kept = 0
escape_len Unknown = 0

-- one text behind another, where both are known
abbrev pub append_known : Option (List ℕ) → Option (List ℕ) → Option (List ℕ)
append_known None ys = None
append_known (Some xs) None = None
append_known (Some xs) (Some ys) = Some (xs ++ ys)

-- the characters of the inside of a string, behind as many characters as an escape has taken
abbrev pub decode : Bool → ℕ → List ℕ → Option (List ℕ)
decode bytes skip [] = Some []
decode bytes (suc skip) (c ∷ cs) = decode bytes skip cs
decode bytes zero (c ∷ cs) =
    if c == 92 then append_known (escape_text (escape_at bytes cs)) (decode bytes (escape_len (escape_at bytes cs)) cs)
    else append_known (Some (c ∷ [])) (decode bytes zero cs)

-- a character is read: what was known before it and what is known behind it give the same, or it is not known
abbrev pub IsStep : Bool → ℕ → ℕ → List ℕ → List ℕ → List ℕ → Option ℕ → Type 0
IsStep bytes skip c rest before behind None = decode bytes skip (c ∷ rest) ≡ None
IsStep bytes skip c rest before behind (Some next) = append_known (Some before) (decode bytes skip (c ∷ rest)) ≡ append_known (Some behind) (decode bytes next rest)

-- the prefix has this letter
abbrev pub in_prefix : ℕ → ℕ → ℕ → List ℕ → Bool
in_prefix letter capital len text =
    (nat_lt 0 len && is_letter letter capital (slice_index text 0)) || (nat_lt 1 len && is_letter letter capital (slice_index text 1))

abbrev pub prefix_len : Opening → ℕ
prefix_len opening = opening.len - closing_len opening.quotes

-- what stands between the quotes
abbrev pub body_of : Opening → List ℕ → List ℕ
body_of opening text = take (length text - opening.len - closing_len opening.quotes) (drop opening.len text)

-- a raw string keeps everything
abbrev pub decoded : Bool → Bool → List ℕ → Option (List ℕ)
decoded raw bytes body = if raw then Some body else decode bytes 0 body

abbrev pub is_ascii : ℕ → Bool
is_ascii c = nat_lt c 128

-- a bytes string keeps the low eight bits of an octal escape
abbrev pub low_byte : ℕ → ℕ
low_byte c = c % 256

abbrev pub text_value : Option (List ℕ) → StringValue
text_value None = UnknownText
text_value (Some cs) = Text (encode_utf8_all cs)

abbrev pub bytes_value : Option (List ℕ) → StringValue
bytes_value None = UnknownBytes
bytes_value (Some cs) = Bytes (map low_byte cs)

abbrev pub literal_value : Bool → Bool → List ℕ → StringValue
literal_value raw true body = if list_all is_ascii body then bytes_value (decoded raw true body) else NotAscii
literal_value raw false body = text_value (decoded raw false body)

abbrev pub value_at : Option Opening → List ℕ → Option StringValue
value_at None text = None
value_at (Some opening) text =
    if opening.formatted then None
    else Some (literal_value (in_prefix 114 82 (prefix_len opening) text) (in_prefix 98 66 (prefix_len opening) text) (body_of opening text))

-- the value of a string literal that is no f-string; none of an f-string, and of a text that does not begin as a string.
-- The text's end is taken for the closing quotes: that it closes there and nowhere before, and what stands behind the
-- quotes that close it, is not looked at
abbrev pub string_value : List ℕ → Option StringValue
string_value text = value_at (string_opening text) text
