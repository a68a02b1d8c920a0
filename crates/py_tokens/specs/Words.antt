-- The 35 keywords, and the words that may stand directly behind a number.
-- Python 3.12 language reference, 2.3.1 "Keywords".
use Rattle.std.specs.Prelude.{ℕ, Bool, false, not, ◌&&◌, ◌||◌, List, [], ◌∷◌, codes, bytes_eq, if◌then◌else◌, slice_index}
use Rattle.py_tokens.specs.Chars.{has, run}
use Rattle.py_tokens.specs.declared.chars.Class.TheVariants.{NamePart}
use Rattle.py_tokens.specs.declared.kinds.TokenKind.{TokenKind}
use Rattle.py_tokens.specs.declared.kinds.TokenKind.TheVariants.{Name, Keyword}

-- the text is one of these
abbrev pub is_one_of : List (List ℕ) → List ℕ → Bool
is_one_of [] text = false
is_one_of (word ∷ words) text = bytes_eq word text || is_one_of words text

abbrev pub false_to_break : List (List ℕ)
false_to_break = codes "False" ∷ codes "None" ∷ codes "True" ∷ codes "and" ∷ codes "as" ∷ codes "assert" ∷ codes "async" ∷ codes "await" ∷ codes "break" ∷ []

abbrev pub class_to_for : List (List ℕ)
class_to_for = codes "class" ∷ codes "continue" ∷ codes "def" ∷ codes "del" ∷ codes "elif" ∷ codes "else" ∷ codes "except" ∷ codes "finally" ∷ codes "for" ∷ []

abbrev pub from_to_not : List (List ℕ)
from_to_not = codes "from" ∷ codes "global" ∷ codes "if" ∷ codes "import" ∷ codes "in" ∷ codes "is" ∷ codes "lambda" ∷ codes "nonlocal" ∷ codes "not" ∷ []

abbrev pub or_to_yield : List (List ℕ)
or_to_yield = codes "or" ∷ codes "pass" ∷ codes "raise" ∷ codes "return" ∷ codes "try" ∷ codes "while" ∷ codes "with" ∷ codes "yield" ∷ []

unfoldable pub is_keyword : List ℕ → Bool
is_keyword text = ((is_one_of false_to_break text || is_one_of class_to_for text) || is_one_of from_to_not text) || is_one_of or_to_yield text

abbrev pub word_kind : List ℕ → TokenKind
word_kind text = if is_keyword text then Keyword else Name

abbrev pub joining_words : List (List ℕ)
joining_words = codes "and" ∷ codes "else" ∷ codes "for" ∷ codes "if" ∷ codes "in" ∷ codes "is" ∷ codes "not" ∷ codes "or" ∷ []

-- a character of a name stands at the front, and the whole word there is none that may stand behind a number
abbrev pub is_glued : List ℕ → Bool
is_glued text = has NamePart (slice_index text 0) && not (is_one_of joining_words (run (has NamePart) text))
