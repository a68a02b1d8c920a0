-- The operators and delimiters, and in a field of an f-string the conversions.
-- Python 3.12 language reference, 2.5 "Operators", 2.6 "Delimiters" and 2.4.3 "f-strings".
use Rattle.std.specs.Prelude.{ℕ, Bool, not, ◌&&◌, List, [], ◌∷◌, Option, Some, None, codes, bytes_eq, if◌then◌else◌}
use Rattle.py_tokens.specs.Words.{is_one_of}
use Rattle.py_tokens.specs.declared.kinds.Kind.{Kind}
use Rattle.py_tokens.specs.declared.kinds.Kind.TheVariants.{Token}
use Rattle.py_tokens.specs.declared.kinds.TokenKind.TheVariants.{Operator, FConversion}

abbrev pub operators : List (List ℕ)
operators =
    codes "+" ∷ codes "-" ∷ codes "*" ∷ codes "**" ∷ codes "/" ∷ codes "//" ∷ codes "%" ∷ codes "@" ∷ codes "<<" ∷ codes ">>" ∷ codes "&" ∷ codes "|" ∷ codes "^" ∷ codes "~" ∷ codes ":=" ∷ codes "<" ∷ codes ">" ∷ codes "<=" ∷ codes ">=" ∷ codes "==" ∷ codes "!=" ∷ codes "(" ∷ codes ")" ∷ codes "[" ∷ codes "]" ∷ codes "{" ∷ codes "}" ∷ codes "," ∷ codes ":" ∷ codes "." ∷ codes ";" ∷ codes "=" ∷ codes "->" ∷ codes "+=" ∷ codes "-=" ∷ codes "*=" ∷ codes "/=" ∷ codes "//=" ∷ codes "%=" ∷ codes "@=" ∷ codes "&=" ∷ codes "|=" ∷ codes "^=" ∷ codes ">>=" ∷ codes "<<=" ∷ codes "**=" ∷ codes "..." ∷ []

-- in a field, outside the brackets opened in it, a colon ends the expression, so := is no operator there
unfoldable pub is_operator : Bool → List ℕ → Bool
is_operator in_field text = is_one_of operators text && not (in_field && bytes_eq text (codes ":="))

abbrev pub conversions : List (List ℕ)
conversions = codes "!r" ∷ codes "!s" ∷ codes "!a" ∷ []

unfoldable pub is_conversion : Bool → List ℕ → Bool
is_conversion in_field text = in_field && is_one_of conversions text

abbrev pub sign_kind : Bool → List ℕ → Option Kind
sign_kind in_field text =
    if is_operator in_field text then Some (Token Operator)
    else (if is_conversion in_field text then Some (Token FConversion)
    else None)
