-- Strings: a prefix and the quotes that open them, and for each place inside, what may come next; the same for a run
-- of text in an f-string.
-- Python 3.12 language reference, 2.4.1 "String and Bytes literals" and 2.4.3 "f-strings".
use Rattle.std.specs.Prelude.{ℕ, ◌+◌, ◌-◌, Bool, true, false, not, ◌&&◌, ◌||◌, List, Option, Some, None, if◌then◌else◌, ◌==◌, nat_lt, slice_index}
use Rattle.py_tokens.specs.Chars.{ends_line, is_quote}
use Rattle.py_tokens.specs.declared.strings.Quotes.{Quotes}
use Rattle.py_tokens.specs.declared.strings.Opening.{Opening}
use Rattle.py_tokens.specs.declared.strings.InString.{InString}
use Rattle.py_tokens.specs.declared.strings.InString.TheVariants as string
use Rattle.py_tokens.specs.declared.strings.InText.{InText}
use Rattle.py_tokens.specs.declared.strings.InText.TheVariants as text

-- ---- how a string begins

-- the character is this letter, in either case
abbrev pub is_letter : ℕ → ℕ → ℕ → Bool
is_letter letter capital c = (c == letter) || (c == capital)

abbrev pub is_f : ℕ → Bool
is_f c = is_letter 102 70 c

-- r, u, b or f
abbrev pub is_prefix : ℕ → Bool
is_prefix c = ((is_letter 114 82 c || is_letter 117 85 c) || is_letter 98 66 c) || is_f c

-- br, rb, fr or rf
abbrev pub is_prefix_pair : ℕ → ℕ → Bool
is_prefix_pair c d =
    if is_letter 114 82 c then is_letter 98 66 d || is_f d
    else (is_letter 98 66 c || is_f c) && is_letter 114 82 d

-- three quotes of a kind open a string in three quotes, whether it is closed or not
abbrev pub quotes_of : ℕ → ℕ → ℕ → Quotes
quotes_of c d e = record { quote = c; triple = (d == c) && (e == c) }

abbrev pub closing_len : Quotes → ℕ
closing_len quotes = if quotes.triple then 3 else 1

abbrev pub opening_at : ℕ → Bool → Quotes → Opening
opening_at prefix formatted quotes = record { len = prefix + closing_len quotes; formatted = formatted; quotes = quotes }

-- the string that begins at the front of the text, if one does
unfoldable pub string_opening : List ℕ → Option Opening
string_opening text =
    let c = slice_index text 0 in
    let d = slice_index text 1 in
    let e = slice_index text 2 in
    if is_quote c then Some (opening_at 0 false (quotes_of c d e))
    else (if is_prefix c && is_quote d then Some (opening_at 1 (is_f c) (quotes_of d e (slice_index text 3)))
    else (if is_prefix_pair c d && is_quote e then Some (opening_at 2 (is_f c || is_f d) (quotes_of e (slice_index text 3) (slice_index text 4)))
    else None))

-- the string closes at the front of the text
abbrev pub closes_here : Quotes → List ℕ → Bool
closes_here quotes text =
    (slice_index text 0 == quotes.quote)
    && (not quotes.triple || ((slice_index text 1 == quotes.quote) && (slice_index text 2 == quotes.quote)))

-- ---- inside a string

-- its own quote closes it or is the first of three; a backslash takes the next character along, and CR LF as one; a
-- string in single quotes ends in its physical line
abbrev pub in_string : Quotes → ℕ → Option InString
in_string quotes c =
    if c == quotes.quote then Some (if quotes.triple then string.OneQuote else string.Closed)
    else (if c == 92 then Some string.Escaped
    else (if ends_line c && not quotes.triple then None
    else Some string.Inside))

abbrev pub string_next : Quotes → InString → ℕ → Option InString
string_next quotes (string.Opening n) c = Some (if nat_lt 1 n then string.Opening (n - 1) else string.Inside)
string_next quotes string.Inside c = in_string quotes c
string_next quotes string.Escaped c = Some (if c == 13 then string.EscapedReturn else string.Inside)
string_next quotes string.EscapedReturn c = if c == 10 then Some string.Inside else in_string quotes c
string_next quotes string.OneQuote c = if c == quotes.quote then Some string.TwoQuotes else in_string quotes c
string_next quotes string.TwoQuotes c = if c == quotes.quote then Some string.Closed else in_string quotes c
string_next quotes string.Closed c = None

abbrev pub is_closed : InString → Bool
is_closed string.Closed = true
is_closed _ = false

-- ---- a run of text in an f-string or in a format: no quote that closes it, no brace that is not doubled, and in single
-- quotes no line end; a backslash takes the next character along. In a format no closing brace is text

abbrev pub in_text : Bool → Quotes → ℕ → Option InText
in_text in_format quotes c =
    if c == quotes.quote then (if quotes.triple then Some text.OneQuote else None)
    else (if c == 123 then Some text.AfterOpen
    else (if c == 125 then (if in_format then None else Some text.AfterClose)
    else (if c == 92 then Some text.Escaped
    else (if ends_line c && not quotes.triple then None
    else Some text.Inside))))

abbrev pub text_if : Bool → Option InText
text_if may = if may then Some text.Inside else None

abbrev pub text_next : Bool → Quotes → InText → ℕ → Option InText
text_next in_format quotes text.Start c = in_text in_format quotes c
text_next in_format quotes text.Inside c = in_text in_format quotes c
text_next in_format quotes text.Escaped c = Some (if c == 13 then text.EscapedReturn else text.Inside)
text_next in_format quotes text.EscapedReturn c = if c == 10 then Some text.Inside else in_text in_format quotes c
text_next in_format quotes text.AfterOpen c = text_if (c == 123)
text_next in_format quotes text.AfterClose c = text_if (c == 125)
text_next in_format quotes text.OneQuote c = if c == quotes.quote then Some text.TwoQuotes else in_text in_format quotes c
text_next in_format quotes text.TwoQuotes c = if c == quotes.quote then None else in_text in_format quotes c

-- a run may end there, where this follows: not inside the quotes that close the string
abbrev pub ends_text : Quotes → InText → List ℕ → Bool
ends_text quotes text.Inside rest = true
ends_text quotes text.EscapedReturn rest = true
ends_text quotes text.OneQuote rest = not ((slice_index rest 0 == quotes.quote) && (slice_index rest 1 == quotes.quote))
ends_text quotes text.TwoQuotes rest = not (slice_index rest 0 == quotes.quote)
ends_text quotes _ rest = false
