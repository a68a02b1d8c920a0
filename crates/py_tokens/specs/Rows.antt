-- The table of tokens and gaps: which row begins at a place, which texts are of a row, and which fault stands where
-- none fits.
-- Python 3.12 language reference, 2 "Lexical analysis".
use Rattle.std.specs.Prelude.{ℕ, ◌+◌, ◌⊎◌, Bool, true, false, not, ◌&&◌, ◌||◌, List, [], ◌∷◌, length, Option, Some, None, option_map, if◌then◌else◌, ◌==◌, nat_le, nat_lt, slice_index}
use Rattle.std.specs.Char.{is_ascii_digit}
use Rattle.py_tokens.specs.Chars.{starts_name, is_blank, ends_line, opens_bracket, end_len, has, every}
use Rattle.py_tokens.specs.Words.{word_kind, is_glued}
use Rattle.py_tokens.specs.Signs.{sign_kind}
use Rattle.py_tokens.specs.Strings.{closes_here, closing_len, string_opening}
use Rattle.py_tokens.specs.NumericLiterals.{number_of}
use Rattle.py_tokens.specs.States.{when, kind_from}
use Rattle.py_tokens.specs.Fronts.{IsLongest, HasNone}
use Rattle.py_tokens.specs.declared.kinds.Kind.{Kind}
use Rattle.py_tokens.specs.declared.kinds.Kind.TheVariants as kind
use Rattle.py_tokens.specs.declared.kinds.Gap.TheVariants.{Blanks, Comment, Join, InnerEnd, LineEnd}
use Rattle.py_tokens.specs.declared.kinds.TokenKind.TheVariants.{FStart, FEnd, Operator}
use Rattle.py_tokens.specs.declared.kinds.TokenFault.{TokenFault}
use Rattle.py_tokens.specs.declared.kinds.TokenFault.TheVariants.{BadCharacter, UnclosedString, UnclosedBracket, NestingLimit}
use Rattle.py_tokens.specs.declared.kinds.Piece.{Piece}
use Rattle.py_tokens.specs.declared.chars.Class.{Class}
use Rattle.py_tokens.specs.declared.chars.Class.TheVariants.{NamePart, Blank, InLine}
use Rattle.py_tokens.specs.declared.strings.Quotes.{Quotes}
use Rattle.py_tokens.specs.declared.strings.Opening.{Opening}
use Rattle.py_tokens.specs.declared.strings.InString.TheVariants as string
use Rattle.py_tokens.specs.declared.strings.InText.TheVariants as prose
use Rattle.py_tokens.specs.declared.states.State.TheVariants as state
use Rattle.py_tokens.specs.declared.rows.Mode.{Mode}
use Rattle.py_tokens.specs.declared.rows.Mode.TheVariants.{Code, Text}
use Rattle.py_tokens.specs.declared.rows.Here.{Here}
use Rattle.py_tokens.specs.declared.rows.Row.{Row}
use Rattle.py_tokens.specs.declared.rows.Row.TheVariants.{Exactly, Run, Number, Reads, Signs, Skipped, Stop, Nothing}

-- ---- the texts of a row

abbrev pub not_empty : List ℕ → Bool
not_empty [] = false
not_empty (c ∷ cs) = true

abbrev pub run_kind : Class → List ℕ → Kind
run_kind NamePart front = kind.Token (word_kind front)
run_kind Blank front = kind.Gap Blanks
run_kind InLine front = kind.Gap Comment

-- a character, and the rest of its physical line
abbrev pub skips : List ℕ → Bool
skips [] = false
skips (c ∷ cs) = every (has InLine) cs

-- what a front is as a text of the row, where this follows
abbrev pub row_kind : Row → List ℕ → List ℕ → Option Kind
row_kind (Exactly n k) front rest = when (not_empty front && (length front == n)) k
row_kind (Run class) front rest = when (every (has class) front && not_empty front) (run_kind class front)
row_kind Number front rest = option_map kind.Token (number_of front)
row_kind (Reads s) front rest = kind_from (Some s) front rest
row_kind (Signs in_field) front rest = sign_kind in_field front
row_kind (Skipped fault) front rest = when (skips front) (kind.Fault fault)
row_kind (Stop fault) front rest = when (not (not_empty front)) (kind.Fault fault)
row_kind Nothing front rest = None

-- ---- which row begins at a place

-- one more bracket or field would pass the limit
abbrev pub is_deepest : Here → Bool
is_deepest here = nat_le 64 here.depth

abbrev pub opening_row : Opening → Row
opening_row opening =
    if opening.formatted then Exactly opening.len (kind.Token FStart)
    else Reads (state.String opening.quotes (string.Opening opening.len))

-- names, numbers, blanks, comments and operators, by their first two characters
abbrev pub plain_row : Here → Bool → ℕ → ℕ → Row
plain_row here in_field c d =
    if starts_name c then Run NamePart
    else (if is_ascii_digit c || ((c == 46) && is_ascii_digit d) then Number
    else (if is_blank c then Run Blank
    else (if c == 35 then Run InLine
    else (if opens_bracket c && is_deepest here then Nothing
    else Signs in_field))))

abbrev pub string_or : Option Opening → Row → Row
string_or None row = row
string_or (Some opening) row = opening_row opening

-- a prefix directly before a quote begins a string
abbrev pub token_row : Here → Bool → List ℕ → Row
token_row here in_field text = string_or (string_opening text) (plain_row here in_field (slice_index text 0) (slice_index text 1))

-- a line end at a depth above 0 or inside a field does not end the logical line
abbrev pub line_end : Here → Kind
line_end here = kind.Gap (if here.is_open then InnerEnd else LineEnd)

abbrev pub join_row : ℕ → Row
join_row n = if nat_lt 0 n then Exactly (n + 1) (kind.Gap Join) else Nothing

-- a line end; a backslash, which joins lines directly before a line end; behind a number no word that may not stand
-- there; and tokens, blanks and comments
unfoldable pub code_row : Here → Bool → List ℕ → Row
code_row here in_field text =
    let c = slice_index text 0 in
    let d = slice_index text 1 in
    if ends_line c then Exactly (end_len c d) (line_end here)
    else (if c == 92 then join_row (end_len d (slice_index text 2))
    else (if here.after_number && is_glued text then Nothing
    else token_row here in_field text))

-- in an f-string the closing quotes, the braces of fields, and runs of text; in a format a closing brace ends the
-- format, doubled or not
unfoldable pub text_row : Here → Bool → Quotes → List ℕ → Row
text_row here in_format quotes text =
    let c = slice_index text 0 in
    if closes_here quotes text then Exactly (closing_len quotes) (kind.Token FEnd)
    else (if in_format && (c == 125) then Exactly 1 (kind.Token Operator)
    else (if (c == 123) && not (slice_index text 1 == 123) then (if is_deepest here then Nothing else Exactly 1 (kind.Token Operator))
    else Reads (state.Text in_format quotes prose.Start)))

abbrev pub row_in : Mode → Here → List ℕ → Row
row_in (Code in_field) here text = code_row here in_field text
row_in (Text in_format quotes) here text = text_row here in_format quotes text

abbrev pub row_at : Here → List ℕ → Row
row_at here text = row_in here.mode here text

-- ---- which fault stands where nothing fits, and what it takes along

-- at the end of the text, where something is open: where tokens are read, the depth tells whether a bracket or a field
-- is missed, or else the string of the field
abbrev pub end_fault : Mode → ℕ → TokenFault
end_fault (Code in_field) depth = if nat_lt 0 depth then UnclosedBracket else UnclosedString
end_fault (Text in_format quotes) depth = UnclosedString

-- a single brace that opens a field stops only at the limit, a closing one is no text, and at a line end, or at a
-- backslash that ends the text, the closing quote is missing
abbrev pub text_fault : ℕ → Row
text_fault c =
    if c == 123 then Skipped NestingLimit
    else (if c == 125 then Skipped BadCharacter
    else (if ends_line c then Stop UnclosedString
    else Skipped UnclosedString))

abbrev pub unclosed_or : Option Opening → Row → Row
unclosed_or None row = row
unclosed_or (Some opening) row = Reads (state.BeforeUnclosed opening.quotes opening.len)

-- a string that does not close takes what stands inside it along
unfoldable pub code_fault : Here → List ℕ → Row
code_fault here text =
    if here.after_number && is_glued text then Skipped BadCharacter
    else unclosed_or (string_opening text) (if opens_bracket (slice_index text 0) then Skipped NestingLimit else Skipped BadCharacter)

abbrev pub fault_in : Mode → Here → List ℕ → Row
fault_in mode here [] = Stop (end_fault mode here.depth)
fault_in (Code in_field) here (c ∷ cs) = code_fault here (c ∷ cs)
fault_in (Text in_format quotes) here (c ∷ cs) = text_fault c

abbrev pub fault_row : Here → List ℕ → Row
fault_row here text = fault_in here.mode here text

-- ---- the piece that stands at a place: the longest text of its row, or a fault where no text of the row stands there

abbrev pub shape : Piece → ℕ × Kind
shape p = (p.len, p.kind)

abbrev pub Fits : Here → List ℕ → Piece → Type 0
Fits here text p =
    IsLongest (row_kind (row_at here text)) text (shape p)
    ⊎ (HasNone (row_kind (row_at here text)) text × IsLongest (row_kind (fault_row here text)) text (shape p))
