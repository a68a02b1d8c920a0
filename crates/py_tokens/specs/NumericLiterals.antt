-- Which texts are numbers: the grammar of integer, floating point and imaginary literals.
-- Python 3.12 language reference, 2.4.4 to 2.4.7.
use Rattle.std.specs.Prelude.{ℕ, Bool, List, Option, Some, None, codes, if◌then◌else◌}
use Rattle.py_tokens.specs.Shapes.{Shape, is_of}
use Rattle.py_tokens.specs.Shapes.Shape.{Empty, One, Then, Either, Many}
use Rattle.py_tokens.specs.declared.kinds.TokenKind.{TokenKind}
use Rattle.py_tokens.specs.declared.kinds.TokenKind.TheVariants.{Int, Float, Imag}

abbrev pub maybe : Shape → Shape
maybe shape = Either Empty shape

-- more of these digits, before each of which one underscore may stand
abbrev pub more_digits : List ℕ → Shape
more_digits digits = Many (Then (maybe (One (codes "_"))) (One digits))

abbrev pub digit_part : List ℕ → Shape
digit_part digits = Then (One digits) (more_digits digits)

abbrev pub decimal : List ℕ
decimal = codes "0123456789"

-- a zero, a letter that names the base, and digits of it
abbrev pub based : List ℕ → List ℕ → Shape
based letters digits = Then (One (codes "0")) (Then (One letters) (Then (maybe (One (codes "_"))) (digit_part digits)))

abbrev pub decimal_integer : Shape
decimal_integer = Either (Then (One (codes "123456789")) (more_digits decimal)) (digit_part (codes "0"))

abbrev pub integer : Shape
integer =
    Either decimal_integer
    (Either (based (codes "bB") (codes "01"))
    (Either (based (codes "oO") (codes "01234567"))
    (based (codes "xX") (codes "0123456789abcdefABCDEF"))))

abbrev pub point : Shape
point = One (codes ".")

abbrev pub point_float : Shape
point_float = Either (Then (maybe (digit_part decimal)) (Then point (digit_part decimal))) (Then (digit_part decimal) point)

abbrev pub exponent : Shape
exponent = Then (One (codes "eE")) (Then (maybe (One (codes "+-"))) (digit_part decimal))

abbrev pub exponent_float : Shape
exponent_float = Then (Either (digit_part decimal) point_float) exponent

abbrev pub float : Shape
float = Either point_float exponent_float

abbrev pub imaginary : Shape
imaginary = Then (Either float (digit_part decimal)) (One (codes "jJ"))

-- what number a text is, if it is one; no text is of two of these shapes
abbrev pub kind_of_number : Bool → Bool → Bool → Option TokenKind
kind_of_number is_integer is_float is_imaginary =
    if is_integer then Some Int
    else (if is_float then Some Float
    else (if is_imaginary then Some Imag
    else None))

unfoldable pub number_of : List ℕ → Option TokenKind
number_of text = kind_of_number (is_of integer text) (is_of float text) (is_of imaginary text)
