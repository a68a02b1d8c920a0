-- Operators on numbers (Python language reference, 6.1, arithmetic conversions; 6.7 to 6.9, binary operations): bool counts as int, and so does an instance of a class under a kind
-- of number.
use Rattle.std.specs.Prelude.{Bool, None, Option, Some, false, if◌then◌else◌, true, ◌&&◌}
use Rattle.py_base.specs.declared.builtin.Builtin.{Builtin}
use Rattle.py_base.specs.declared.node.Op.{Op}
use Rattle.type_terms.specs.Types.{both_bools}
use Rattle.type_terms.specs.declared.atom.Atom.{Atom}
use Rattle.value_terms.specs.Term.{fixed}
use Rattle.op_rules.specs.Classes.{is_instance_under}
use Rattle.op_rules.specs.Instances.{instance}
use Rattle.op_rules.specs.World.{Value, World, when}
use Rattle.op_rules.specs.declared.number.Number.{Number}
use Rattle.py_base.specs.declared.builtin.Builtin.TheVariants as builtin
use Rattle.op_rules.specs.declared.number.Number.TheVariants as number_kind
use Rattle.py_base.specs.declared.node.Op.TheVariants as operator

abbrev pub is_whole : World → Atom → Bool
is_whole w a = is_instance_under w a builtin.Int

-- what a member counts as
abbrev pub number : World → Atom → Option Number
number w a =
    if is_whole w a then Some number_kind.Whole
    else (if is_instance_under w a builtin.Float then Some number_kind.Real
    else when (is_instance_under w a builtin.Complex) number_kind.Imaginary)

-- int with int: int, and `/` float
abbrev pub whole_operator : Op → Option Builtin
whole_operator operator.Plus = Some builtin.Int
whole_operator operator.Minus = Some builtin.Int
whole_operator operator.Star = Some builtin.Int
whole_operator operator.Slash = Some builtin.Float
whole_operator operator.DoubleSlash = Some builtin.Int
whole_operator operator.Percent = Some builtin.Int
whole_operator operator.DoubleStar = Some builtin.Int
whole_operator operator.BitAnd = Some builtin.Int
whole_operator operator.BitOr = Some builtin.Int
whole_operator operator.BitXor = Some builtin.Int
whole_operator operator.ShiftLeft = Some builtin.Int
whole_operator operator.ShiftRight = Some builtin.Int
whole_operator _ = None

-- with a float: float; `& | ^ << >>` need ints
abbrev pub real_operator : Op → Option Builtin
real_operator operator.Plus = Some builtin.Float
real_operator operator.Minus = Some builtin.Float
real_operator operator.Star = Some builtin.Float
real_operator operator.Slash = Some builtin.Float
real_operator operator.DoubleSlash = Some builtin.Float
real_operator operator.Percent = Some builtin.Float
real_operator operator.DoubleStar = Some builtin.Float
real_operator _ = None

-- with a complex: complex, but for `//` and `%`
abbrev pub imaginary_operator : Op → Option Builtin
imaginary_operator operator.Plus = Some builtin.Complex
imaginary_operator operator.Minus = Some builtin.Complex
imaginary_operator operator.Star = Some builtin.Complex
imaginary_operator operator.Slash = Some builtin.Complex
imaginary_operator operator.DoubleStar = Some builtin.Complex
imaginary_operator _ = None

-- the wider of two kinds decides
abbrev pub number_operator : Op → Number → Number → Option Builtin
number_operator op number_kind.Whole number_kind.Whole = whole_operator op
number_operator op number_kind.Whole number_kind.Real = real_operator op
number_operator op number_kind.Real number_kind.Whole = real_operator op
number_operator op number_kind.Real number_kind.Real = real_operator op
number_operator op _ _ = imaginary_operator op

abbrev pub is_bitwise : Op → Bool
is_bitwise operator.BitAnd = true
is_bitwise operator.BitOr = true
is_bitwise operator.BitXor = true
is_bitwise _ = false

abbrev pub instances_of : Option Builtin → Option Value
instances_of (Some b) = Some (instance b)
instances_of None = None

abbrev pub on_numbers : Op → Option Number → Option Number → Option Builtin
on_numbers op (Some one) (Some other) = number_operator op one other
on_numbers op _ _ = None

abbrev pub are_both : World → Atom → Atom → Builtin → Bool
are_both w left right b = is_instance_under w left b && is_instance_under w right b

-- `& | ^` of bools: bool
unfoldable pub numbers : World → Op → Atom → Atom → Option Value
numbers w op left right =
    if is_bitwise op && are_both w left right builtin.Bool then Some (fixed both_bools)
    else instances_of (on_numbers op (number w left) (number w right))
