-- What each token is to the grammar, and the operator that it spells (Python 3.12 language reference, 2.3 and 2.5, and the literals
-- of 2.4: a number or string whose value no rule gives stands in no line).
use Rattle.std.specs.Prelude.{ℕ, ◌==◌, ◌||◌, ◌&&◌, nat_lt, Bool, false, is_some, Option, Some, None, List, [], ◌∷◌, codes, bytes_eq, if◌then◌else◌}
use Rattle.std.specs.List.{list_all}
use Rattle.py_tokens.specs.declared.lines.Token.{Token}
use Rattle.py_tokens.specs.declared.kinds.TokenKind.{TokenKind}
use Rattle.py_tokens.specs.declared.kinds.TokenKind.TheVariants as kinds
use Rattle.py_tokens.specs.Ints.{int_of}
use Rattle.py_grammar.specs.declared.words.Terminal.{Terminal}
use Rattle.py_grammar.specs.declared.words.Terminal.TheVariants as terminals

abbrev pub is_b : ℕ → Bool
is_b c = c == 98 || c == 66

abbrev pub is_r : ℕ → Bool
is_r c = c == 114 || c == 82

-- a literal of bytes has a `b` in its prefix
abbrev pub is_bytes_literal : List ℕ → Bool
is_bytes_literal [] = false
is_bytes_literal (c ∷ []) = is_b c
is_bytes_literal (c ∷ d ∷ cs) = is_b c || (is_r c && is_b d)

abbrev pub is_ascii_text : List ℕ → Bool
is_ascii_text bs = list_all (λ b. nat_lt b 128) bs

-- what a table has for a spelling
abbrev pub lookup : {A : Type 0} → List (List ℕ × A) → List ℕ → Option A
lookup [] text = None
lookup (row ∷ rows) text = if bytes_eq text row.0 then Some row.1 else lookup rows text

abbrev pub first_of : {A : Type 0} → Option A → Option A → Option A
first_of (Some x) other = Some x
first_of None other = other

abbrev pub or_other : Option Terminal → Terminal
or_other (Some t) = t
or_other None = terminals.Other

abbrev pub keywords_to_await : List (List ℕ × Terminal)
keywords_to_await =
    (codes "False", terminals.FalseWord) ∷ (codes "None", terminals.NoneWord) ∷ (codes "True", terminals.TrueWord) ∷ (codes "and", terminals.And)
    ∷ (codes "as", terminals.As) ∷ (codes "assert", terminals.Assert) ∷ (codes "async", terminals.Async) ∷ (codes "await", terminals.Await) ∷ []

abbrev pub keywords_to_except : List (List ℕ × Terminal)
keywords_to_except =
    (codes "break", terminals.Break) ∷ (codes "class", terminals.Class) ∷ (codes "continue", terminals.Continue) ∷ (codes "def", terminals.Def)
    ∷ (codes "del", terminals.Del) ∷ (codes "elif", terminals.Elif) ∷ (codes "else", terminals.Else) ∷ (codes "except", terminals.Except) ∷ []

abbrev pub keywords_to_is : List (List ℕ × Terminal)
keywords_to_is =
    (codes "finally", terminals.Finally) ∷ (codes "for", terminals.For) ∷ (codes "from", terminals.From) ∷ (codes "global", terminals.Global)
    ∷ (codes "if", terminals.If) ∷ (codes "import", terminals.Import) ∷ (codes "in", terminals.In) ∷ (codes "is", terminals.Is) ∷ []

abbrev pub keywords_to_yield : List (List ℕ × Terminal)
keywords_to_yield =
    (codes "lambda", terminals.Lambda) ∷ (codes "nonlocal", terminals.Nonlocal) ∷ (codes "not", terminals.Not) ∷ (codes "or", terminals.Or)
    ∷ (codes "pass", terminals.Pass) ∷ (codes "raise", terminals.Raise) ∷ (codes "return", terminals.Return) ∷ (codes "try", terminals.Try)
    ∷ (codes "while", terminals.While) ∷ (codes "with", terminals.With) ∷ (codes "yield", terminals.Yield) ∷ []

-- names that are keywords where a form has them as such
abbrev pub soft_keywords : List (List ℕ × Terminal)
soft_keywords =
    (codes "match", terminals.MatchWord) ∷ (codes "case", terminals.CaseWord) ∷ (codes "type", terminals.TypeWord) ∷ (codes "_", terminals.Underscore) ∷ []

abbrev pub arithmetic : List (List ℕ × Terminal)
arithmetic =
    (codes "+", terminals.Plus) ∷ (codes "-", terminals.Minus) ∷ (codes "*", terminals.Star) ∷ (codes "/", terminals.Slash)
    ∷ (codes "%", terminals.Times) ∷ (codes "@", terminals.At) ∷ (codes "//", terminals.Times) ∷ (codes "**", terminals.DoubleStar) ∷ []

abbrev pub augmented : List (List ℕ × Terminal)
augmented =
    (codes "+=", terminals.AugmentedAssign) ∷ (codes "-=", terminals.AugmentedAssign) ∷ (codes "*=", terminals.AugmentedAssign) ∷ (codes "/=", terminals.AugmentedAssign)
    ∷ (codes "//=", terminals.AugmentedAssign) ∷ (codes "%=", terminals.AugmentedAssign) ∷ (codes "@=", terminals.AugmentedAssign) ∷ (codes "&=", terminals.AugmentedAssign)
    ∷ (codes "|=", terminals.AugmentedAssign) ∷ (codes "^=", terminals.AugmentedAssign) ∷ (codes ">>=", terminals.AugmentedAssign) ∷ (codes "<<=", terminals.AugmentedAssign)
    ∷ (codes "**=", terminals.AugmentedAssign) ∷ []

abbrev pub bitwise : List (List ℕ × Terminal)
bitwise =
    (codes "&", terminals.Ampersand) ∷ (codes "|", terminals.Bar) ∷ (codes "^", terminals.Caret) ∷ (codes "~", terminals.Tilde)
    ∷ (codes "<<", terminals.Shift) ∷ (codes ">>", terminals.Shift) ∷ []

abbrev pub comparisons : List (List ℕ × Terminal)
comparisons =
    (codes "<", terminals.Compare) ∷ (codes ">", terminals.Compare) ∷ (codes "<=", terminals.Compare) ∷ (codes ">=", terminals.Compare)
    ∷ (codes "==", terminals.Compare) ∷ (codes "!=", terminals.Compare) ∷ []

abbrev pub brackets : List (List ℕ × Terminal)
brackets =
    (codes "(", terminals.OpenRound) ∷ (codes ")", terminals.CloseRound) ∷ (codes "[", terminals.OpenSquare) ∷ (codes "]", terminals.CloseSquare)
    ∷ (codes "{", terminals.OpenCurly) ∷ (codes "}", terminals.CloseCurly) ∷ []

abbrev pub punctuation : List (List ℕ × Terminal)
punctuation =
    (codes ",", terminals.Comma) ∷ (codes ":", terminals.Colon) ∷ (codes ".", terminals.Dot) ∷ (codes "=", terminals.Assign)
    ∷ (codes ":=", terminals.Walrus) ∷ (codes "...", terminals.Ellipsis) ∷ (codes ";", terminals.Semicolon) ∷ (codes "->", terminals.Arrow) ∷ []

abbrev pub keyword_terminal : List ℕ → Terminal
keyword_terminal text = or_other (first_of (lookup keywords_to_await text) (first_of (lookup keywords_to_except text) (first_of (lookup keywords_to_is text) (lookup keywords_to_yield text))))

abbrev pub or_name : Option Terminal → Terminal
or_name (Some t) = t
or_name None = terminals.Name

abbrev pub name_terminal : List ℕ → Terminal
name_terminal text = or_name (lookup soft_keywords text)

abbrev pub operator_terminal : List ℕ → Terminal
operator_terminal text =
    or_other (first_of (lookup punctuation text) (first_of (lookup brackets text) (first_of (lookup arithmetic text) (first_of (lookup comparisons text) (first_of (lookup bitwise text) (lookup augmented text))))))

abbrev pub string_terminal : List ℕ → Terminal
string_terminal text = if is_bytes_literal text then (if is_ascii_text text then terminals.BytesStr else terminals.Other) else terminals.Str

abbrev pub terminal_of : TokenKind → List ℕ → Terminal
terminal_of kinds.Name text = name_terminal text
terminal_of kinds.Keyword text = keyword_terminal text
terminal_of kinds.Int text = if is_some (int_of text) then terminals.Int else terminals.Other
terminal_of kinds.Float text = terminals.Float
terminal_of kinds.Imag text = terminals.Imaginary
terminal_of kinds.Str text = string_terminal text
terminal_of kinds.FStart text = terminals.FStart
terminal_of kinds.FText text = terminals.FText
terminal_of kinds.FConversion text = terminals.FConversion
terminal_of kinds.FEnd text = terminals.FEnd
terminal_of kinds.Operator text = operator_terminal text

-- WHAT A TOKEN IS TO THE GRAMMAR
unfoldable pub terminal : Token → Terminal
terminal w = terminal_of w.kind w.text
