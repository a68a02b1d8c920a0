-- What stands behind a backslash in a string.
-- Python 3.12 language reference, 2.4.1 "String and Bytes literals", the table of escape sequences.
use Rattle.std.specs.Prelude.{ℕ, ◌+◌, ◌-◌, ◌*◌, Bool, ◌&&◌, ◌||◌, List, Option, Some, None, if◌then◌else◌, ◌==◌, nat_le, nat_lt, slice_index}
use Rattle.std.specs.Char.{is_ascii_digit}
use lib.Utf8.{scalar}
use Rattle.py_tokens.specs.Chars.{end_len}
use Rattle.py_tokens.specs.declared.escapes.Escape.{Escape}
use Rattle.py_tokens.specs.declared.escapes.Escape.TheVariants.{Joined, Char, Kept, Unknown}

abbrev pub is_octal : ℕ → Bool
is_octal c = nat_le 48 c && nat_le c 55

-- the character of this number, where it is one: no surrogate, and not above 10ffff
abbrev pub character : ℕ → ℕ → Escape
character number len = if scalar number then Char number len else Unknown

-- one to three octal digits
unfoldable pub octal : ℕ → ℕ → ℕ → Escape
octal c d e =
    if is_octal d then (if is_octal e then character (((c - 48) * 8 + (d - 48)) * 8 + (e - 48)) 3
    else character ((c - 48) * 8 + (d - 48)) 2)
    else character (c - 48) 1

-- a character that stands for itself or for a control character; another keeps its backslash
unfoldable pub single : ℕ → Escape
single c =
    if (c == 92) || ((c == 39) || (c == 34)) then Char c 1
    else (if c == 97 then Char 7 1
    else (if c == 98 then Char 8 1
    else (if c == 102 then Char 12 1
    else (if c == 110 then Char 10 1
    else (if c == 114 then Char 13 1
    else (if c == 116 then Char 9 1
    else (if c == 118 then Char 11 1
    else Kept)))))))

abbrev pub hex_digit : ℕ → Option ℕ
hex_digit c =
    if is_ascii_digit c then Some (c - 48)
    else (if nat_le 97 c && nat_le c 102 then Some (c - 87)
    else (if nat_le 65 c && nat_le c 70 then Some (c - 55)
    else None))

-- the number of two parts, where both are known
abbrev pub both : ℕ → Option ℕ → Option ℕ → Option ℕ
both base None low = None
both base (Some high) None = None
both base (Some high) (Some low) = Some (high * base + low)

abbrev pub hex_2 : List ℕ → ℕ → Option ℕ
hex_2 text at = both 16 (hex_digit (slice_index text at)) (hex_digit (slice_index text (at + 1)))

abbrev pub hex_4 : List ℕ → ℕ → Option ℕ
hex_4 text at = both 256 (hex_2 text at) (hex_2 text (at + 2))

abbrev pub hex_8 : List ℕ → ℕ → Option ℕ
hex_8 text at = both 65536 (hex_4 text at) (hex_4 text (at + 4))

abbrev pub numbered : Option ℕ → ℕ → Escape
numbered None len = Unknown
numbered (Some number) len = character number len

-- an escape that a bytes string does not have: \u and \U with four and eight digits, and \N, whose names are not known
abbrev pub named_at : List ℕ → Escape
named_at text =
    let c = slice_index text 0 in
    if c == 117 then numbered (hex_4 text 1) 5
    else (if c == 85 then numbered (hex_8 text 1) 9
    else (if c == 78 then Unknown
    else single c))

-- the text behind the backslash; \N, \u and \U are no escapes in a bytes string
abbrev pub escape_at : Bool → List ℕ → Escape
escape_at bytes text =
    let c = slice_index text 0 in
    let d = slice_index text 1 in
    if nat_lt 0 (end_len c d) then Joined (end_len c d)
    else (if is_octal c then octal c d (slice_index text 2)
    else (if c == 120 then numbered (hex_2 text 1) 3
    else (if bytes then single c
    else named_at text)))
