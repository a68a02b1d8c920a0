-- What is open at a place: brackets, f-strings, and their fields and formats. It says what is read there, and how what
-- is open and the depth change.
-- Python 3.12 language reference, 2.1.6 "Implicit line joining" and 2.4.3 "f-strings".
use Rattle.std.specs.Prelude.{ℕ, ◌+◌, ◌-◌, Bool, true, false, not, ◌||◌, List, [], ◌∷◌, Option, Some, None, if◌then◌else◌, ◌==◌, nat_lt}
use Rattle.py_tokens.specs.Chars.{opens_bracket, closes_bracket}
use Rattle.py_tokens.specs.Strings.{string_opening}
use Rattle.py_tokens.specs.Nesting.{Nesting, none_open}
use Rattle.py_tokens.specs.declared.kinds.Kind.{Kind}
use Rattle.py_tokens.specs.declared.kinds.Kind.TheVariants.{Token, Gap, Fault}
use Rattle.py_tokens.specs.declared.kinds.Gap.TheVariants.{LineEnd}
use Rattle.py_tokens.specs.declared.kinds.TokenKind.TheVariants.{Int, Float, Imag, Operator, FStart, FEnd}
use Rattle.py_tokens.specs.declared.strings.Opening.{Opening}
use Rattle.py_tokens.specs.declared.rows.Mode.{Mode}
use Rattle.py_tokens.specs.declared.rows.Mode.TheVariants.{Code, Text}
use Rattle.py_tokens.specs.declared.rows.Here.{Here}
use Rattle.py_tokens.specs.declared.opens.Nest.{Nest}
use Rattle.py_tokens.specs.declared.opens.Nest.TheVariants.{Bracket, FieldBracket, Field, Format, Quoted}

-- ---- what is known at a place

abbrev pub nest_mode : Nest → Mode
nest_mode Bracket = Code false
nest_mode FieldBracket = Code false
nest_mode (Field quotes) = Code true
nest_mode (Format quotes) = Text true quotes
nest_mode (Quoted quotes) = Text false quotes

abbrev pub mode_of : List Nest → Mode
mode_of [] = Code false
mode_of (top ∷ nests) = nest_mode top

abbrev pub is_outer : Nest → Bool
is_outer Bracket = true
is_outer nest = false

-- an f-string is open: the place is in its text or in a field of it
abbrev pub is_in_string : List Nest → Bool
is_in_string [] = false
is_in_string (top ∷ nests) = not (is_outer top)

-- a bracket counts as open, or an f-string is open
abbrev pub is_some_open : Nesting → Bool
is_some_open opens = nat_lt 0 opens.depth || is_in_string opens.nests

-- what is known at a place, where a number may end there
abbrev pub here : Nesting → Bool → Here
here opens after_number = record { mode = mode_of opens.nests; is_open = is_some_open opens; depth = opens.depth; after_number = after_number }

-- ---- after a sign of one character

-- one deeper; where that would pass the limit a fault stands
abbrev pub deeper : ℕ → ℕ
deeper depth = if nat_lt depth 64 then depth + 1 else 64

abbrev pub depth_after : ℕ → ℕ → ℕ
depth_after depth c = if opens_bracket c then deeper depth else (if closes_bracket c then depth - 1 else depth)

abbrev pub bracket_in : List Nest → Nest
bracket_in nests = if is_in_string nests then FieldBracket else Bracket

abbrev pub bracketed : ℕ → List Nest → List Nest
bracketed c nests = if opens_bracket c then bracket_in nests ∷ nests else nests

-- where the innermost is this one. A bracket closes by any closing one; a field closes by } alone, and its colon begins
-- its format; in text a brace opens a field
abbrev pub nests_in : Nest → List Nest → ℕ → List Nest
nests_in Bracket nests c = if closes_bracket c then nests else bracketed c (Bracket ∷ nests)
nests_in FieldBracket nests c = if closes_bracket c then nests else bracketed c (FieldBracket ∷ nests)
nests_in (Field quotes) nests c =
    if c == 125 then nests
    else (if c == 58 then Format quotes ∷ nests
    else bracketed c (Field quotes ∷ nests))
nests_in (Format quotes) nests c = if c == 125 then nests else Field quotes ∷ (Format quotes ∷ nests)
nests_in (Quoted quotes) nests c = Field quotes ∷ (Quoted quotes ∷ nests)

abbrev pub nests_after : List Nest → ℕ → List Nest
nests_after [] c = bracketed c []
nests_after (top ∷ nests) c = nests_in top nests c

abbrev pub after_sign : Nesting → ℕ → Nesting
after_sign opens c = record { nests = nests_after opens.nests c; depth = depth_after opens.depth c }

abbrev pub after_operator : Nesting → List ℕ → Nesting
after_operator opens (c ∷ []) = after_sign opens c
after_operator opens text = opens

-- ---- after the quotes of an f-string

abbrev pub quoted_by : Option Opening → List Nest → List Nest
quoted_by None nests = nests
quoted_by (Some opening) nests = Quoted opening.quotes ∷ nests

abbrev pub open_string : List ℕ → List Nest → List Nest
open_string text nests = quoted_by (string_opening text) nests

abbrev pub is_quoted : Nest → Bool
is_quoted (Quoted quotes) = true
is_quoted nest = false

-- the closing quote closes the innermost string, and fields left open in it, which no longer count
abbrev pub close_string : List Nest → ℕ → Nesting
close_string [] depth = record { nests = []; depth = depth }
close_string (top ∷ nests) depth = if is_quoted top then record { nests = nests; depth = depth } else close_string nests (depth - 1)

-- ---- after a piece

abbrev pub is_number : Kind → Bool
is_number (Token Int) = true
is_number (Token Float) = true
is_number (Token Imag) = true
is_number kind = false

-- what is open after a piece. A fault ends all; and where a logical line ends, no bracket is open any more
unfoldable pub after : Nesting → Kind → List ℕ → Nesting
after opens (Token Operator) text = after_operator opens text
after opens (Token FStart) text = record { nests = open_string text opens.nests; depth = opens.depth }
after opens (Token FEnd) text = close_string opens.nests opens.depth
after opens (Gap LineEnd) text = none_open
after opens (Fault fault) text = none_open
after opens kind text = opens
