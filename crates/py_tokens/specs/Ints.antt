-- The value of an integer literal: the number that its digits behind the prefix write in their base, underscores left
-- out. It is known up to 2 ^ 127 - 1.
-- Python 3.12 language reference, 2.4.5 "Integer literals".
use Rattle.std.specs.Prelude.{ℕ, ℤ, pos, ◌+◌, ◌-◌, ◌*◌, ◌^◌, Bool, true, false, ◌||◌, List, [], ◌∷◌, Option, Some, None, option_map, if◌then◌else◌, ◌==◌, nat_le, nat_lt, drop}
use Rattle.py_tokens.specs.Shapes.{is_of}
use Rattle.py_tokens.specs.NumericLiterals.{integer}
use Rattle.py_tokens.specs.declared.kinds.Kind.{Kind}
use Rattle.py_tokens.specs.declared.kinds.Kind.TheVariants.{Token}
use Rattle.py_tokens.specs.declared.kinds.TokenKind.TheVariants.{Int}

-- of 0 to 9, a to f and A to F
abbrev pub digit_of : ℕ → ℕ
digit_of c = if nat_le 97 c then c - 87 else (if nat_le 65 c then c - 55 else c - 48)

-- the number that digits write behind others that write this value
abbrev pub digits_number : ℕ → ℕ → List ℕ → ℕ
digits_number base value [] = value
digits_number base value (c ∷ cs) = if c == 95 then digits_number base value cs else digits_number base (value * base + digit_of c) cs

-- the base that the letter behind a leading zero names
abbrev pub int_base : ℕ → ℕ
int_base c =
    if (c == 120) || (c == 88) then 16
    else (if (c == 111) || (c == 79) then 8
    else (if (c == 98) || (c == 66) then 2
    else 10))

abbrev pub base_of : List ℕ → ℕ
base_of (c ∷ (d ∷ cs)) = int_base d
base_of text = 10

abbrev pub int_digits : List ℕ → List ℕ
int_digits text = if base_of text == 10 then text else drop 2 text

abbrev pub is_int_kind : Option Kind → Bool
is_int_kind (Some (Token Int)) = true
is_int_kind found = false

-- the text is an integer literal
abbrev pub is_int : List ℕ → Bool
is_int text = is_of integer text

-- a number that an integer literal can have
abbrev pub below_limit : ℕ → Option ℕ
below_limit n = if nat_lt n (2 ^ 127) then Some n else None

-- the value of an integer literal; none of another text, and none above 2 ^ 127 - 1
unfoldable pub int_of : List ℕ → Option ℤ
int_of text = if is_int text then option_map pos (below_limit (digits_number (base_of text) 0 (int_digits text))) else None
