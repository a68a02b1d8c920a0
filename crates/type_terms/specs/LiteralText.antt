-- How a literal value is written: `\`, `"`, a line feed, a carriage return and a tab behind a `\`, of
-- more than 50 characters the first 50 and `...`, and each byte of a bytes literal that is not
-- printable ASCII as `\x` and two hexadecimal digits.
use Rattle.std.specs.Prelude.{ℕ, Bool, true, false, if◌then◌else◌, ◌==◌, ◌/◌, ◌%◌, ◌&&◌, nat_lt, nat_le, List, [], ◌∷◌, ◌++◌, length, take, codes, Option, Some, None}
use Rattle.std.specs.List.{flat_map, slice_get}
use Rattle.std.specs.Char.{encode_utf8, digit_char}
use Rattle.std.specs.Str.{chars}
use Rattle.std.specs.Fmt.{signed_decimal}
use Rattle.py_base.specs.declared.ids.ClassId.{ClassId}
use Rattle.py_base.specs.declared.ids.NameId.{NameId}
use Rattle.type_terms.specs.declared.literal.Literal.{Literal}
use Rattle.type_terms.specs.declared.literal.Literal.TheVariants as literal
use Rattle.type_terms.specs.View.{Meaning}

-- what stands behind the backslash of a character that is written with one
abbrev pub escape : ℕ → Option ℕ
escape c =
    if c == 92 then Some 92 else (if c == 34 then Some 34 else (if c == 10 then Some 110 else (if c == 13 then Some 114 else (if c == 9 then Some 116 else None))))

abbrev pub escaped : Option ℕ → List ℕ → List ℕ
escaped (Some letter) other = 92 ∷ letter ∷ []
escaped None other = other

abbrev pub char_text : ℕ → List ℕ
char_text c = escaped (escape c) (encode_utf8 c)

abbrev pub byte_text : ℕ → List ℕ
byte_text b = escaped (escape b) (if nat_le 32 b && nat_le b 126 then b ∷ [] else 92 ∷ 120 ∷ digit_char (b / 16) ∷ digit_char (b % 16) ∷ [])

-- the first 50, and dots where there are more
abbrev pub shortened : (ℕ → List ℕ) → List ℕ → List ℕ
shortened written all = flat_map written (take 50 all) ++ (if nat_lt 50 (length all) then codes "..." else [])

-- the name of the member of an enum at a place
abbrev pub member_word : Meaning → Option NameId → List ℕ
member_word m None = []
member_word m (Some name) = m.view.word name

abbrev pub bool_text : Bool → List ℕ
bool_text true = codes "True"
bool_text false = codes "False"

abbrev pub member_text : Meaning → ClassId → ℕ → List ℕ
member_text m class place = m.view.class_word class ++ 46 ∷ member_word m (slice_get (m.names.enum_members class) place)

abbrev pub literal_value_text : Meaning → Literal → List ℕ
literal_value_text m (literal.Int z) = signed_decimal z
literal_value_text m (literal.Bool b) = bool_text b
literal_value_text m (literal.Str t) = 34 ∷ shortened char_text (chars t) ++ 34 ∷ []
literal_value_text m (literal.Bytes bs) = 98 ∷ 34 ∷ shortened byte_text bs ++ 34 ∷ []
literal_value_text m (literal.Member class place) = member_text m class place

abbrev pub literal_text : Meaning → Literal → List ℕ
literal_text m value = codes "Literal[" ++ literal_value_text m value ++ codes "]"
