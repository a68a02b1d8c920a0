-- How numbers are read: for each place in a number, which place comes behind a character, and what a number is that ends there. Which
-- texts are numbers stands in NumericLiterals.antt.
-- Python 3.12 language reference, 2.4.4 to 2.4.7 "Numeric literals".
use Rattle.std.specs.Prelude.{ℕ, Bool, ◌&&◌, ◌||◌, Option, Some, None, if◌then◌else◌, ◌==◌, nat_le}
use Rattle.std.specs.Char.{is_ascii_digit}
use Rattle.py_tokens.specs.declared.kinds.TokenKind.{TokenKind}
use Rattle.py_tokens.specs.declared.kinds.TokenKind.TheVariants.{Int, Float, Imag}
use Rattle.py_tokens.specs.declared.numbers.Base.{Base}
use Rattle.py_tokens.specs.declared.numbers.Base.TheVariants.{Two, Eight, Sixteen}
use Rattle.py_tokens.specs.declared.numbers.InNumber.{InNumber}
use Rattle.py_tokens.specs.declared.numbers.InNumber.TheVariants.{Start, Zero, Zeros, ZerosJoin, Digits, DigitsJoin, LedDigits, LedDigitsJoin, Point, BarePoint, Fraction, FractionJoin, Exponent, ExponentSign, Power, PowerJoin, Prefix, Based, BasedJoin, Done}

abbrev pub is_exponent : ℕ → Bool
is_exponent c = (c == 101) || (c == 69)

abbrev pub is_j : ℕ → Bool
is_j c = (c == 106) || (c == 74)

abbrev pub is_x : ℕ → Bool
is_x c = (c == 120) || (c == 88)

abbrev pub is_o : ℕ → Bool
is_o c = (c == 111) || (c == 79)

abbrev pub is_b : ℕ → Bool
is_b c = (c == 98) || (c == 66)

abbrev pub is_digit_of : Base → ℕ → Bool
is_digit_of Two c = (c == 48) || (c == 49)
is_digit_of Eight c = nat_le 48 c && nat_le c 55
is_digit_of Sixteen c = is_ascii_digit c || ((nat_le 97 c && nat_le c 102) || (nat_le 65 c && nat_le c 70))

-- what a number may end as, at a place
abbrev pub number_kind : InNumber → Option TokenKind
number_kind Zero = Some Int
number_kind Zeros = Some Int
number_kind Digits = Some Int
number_kind (Based base) = Some Int
number_kind BarePoint = Some Float
number_kind Fraction = Some Float
number_kind Power = Some Float
number_kind Done = Some Imag
number_kind _ = None

-- behind digits, a point, an exponent or a j may come
abbrev pub tail_from : ℕ → Option InNumber
tail_from c =
    if c == 46 then Some BarePoint
    else (if is_exponent c then Some Exponent
    else (if is_j c then Some Done
    else None))

abbrev pub to : Bool → InNumber → Option InNumber → Option InNumber
to b place other = if b then Some place else other

-- where a number stands after one more character: behind exactly one zero a base prefix may go on, behind more only digits
-- or what tells a float or an imaginary literal
abbrev pub number_next : InNumber → ℕ → Option InNumber
number_next Start c = to (c == 48) Zero (to (is_ascii_digit c) Digits (to (c == 46) Point None))
number_next Zero c = to (c == 48) Zeros (to (c == 95) ZerosJoin (to (is_ascii_digit c) LedDigits (to (is_x c) (Prefix Sixteen) (to (is_o c) (Prefix Eight) (to (is_b c) (Prefix Two) (tail_from c))))))
number_next Zeros c = to (c == 48) Zeros (to (c == 95) ZerosJoin (to (is_ascii_digit c) LedDigits (tail_from c)))
number_next ZerosJoin c = to (c == 48) Zeros (to (is_ascii_digit c) LedDigits None)
number_next Digits c = to (is_ascii_digit c) Digits (to (c == 95) DigitsJoin (tail_from c))
number_next DigitsJoin c = to (is_ascii_digit c) Digits None
number_next LedDigits c = to (is_ascii_digit c) LedDigits (to (c == 95) LedDigitsJoin (tail_from c))
number_next LedDigitsJoin c = to (is_ascii_digit c) LedDigits None
number_next Point c = to (is_ascii_digit c) Fraction None
number_next BarePoint c = to (is_ascii_digit c) Fraction (to (is_exponent c) Exponent (to (is_j c) Done None))
number_next Fraction c = to (is_ascii_digit c) Fraction (to (c == 95) FractionJoin (to (is_exponent c) Exponent (to (is_j c) Done None)))
number_next FractionJoin c = to (is_ascii_digit c) Fraction None
number_next Exponent c = to ((c == 43) || (c == 45)) ExponentSign (to (is_ascii_digit c) Power None)
number_next ExponentSign c = to (is_ascii_digit c) Power None
number_next Power c = to (is_ascii_digit c) Power (to (c == 95) PowerJoin (to (is_j c) Done None))
number_next PowerJoin c = to (is_ascii_digit c) Power None
number_next (Prefix base) c = to (is_digit_of base c) (Based base) (to (c == 95) (BasedJoin base) None)
number_next (Based base) c = to (is_digit_of base c) (Based base) (to (c == 95) (BasedJoin base) None)
number_next (BasedJoin base) c = to (is_digit_of base c) (Based base) None
number_next Done c = None
