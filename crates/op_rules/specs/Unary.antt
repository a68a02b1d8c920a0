-- What an operator with one operand gives (Python language reference, 6.6, unary arithmetic and bitwise operations): its own `__neg__`, `__pos__`, `__invert__`; int and bool to int; float to
-- float and complex to complex, both not by `~`; Unknown Unknown; None nothing and a fault; else Unknown and a fault.
use Rattle.std.specs.Prelude.{Bool, None, Option, Some, false, if◌then◌else◌, not, true}
use Rattle.py_base.specs.declared.builtin.Builtin.{Builtin}
use Rattle.py_base.specs.declared.node.Op.{Op}
use Rattle.type_terms.specs.declared.atom.Atom.{Atom, out-Atom}
use Rattle.type_terms.specs.declared.atom.Atom.TheOpen.{Atom-F}
use Rattle.value_terms.specs.Outcome.{gives}
use Rattle.op_rules.specs.Names.{one_method}
use Rattle.op_rules.specs.Numbers.{instances_of, number}
use Rattle.op_rules.specs.Operators.{method_of, stands_in}
use Rattle.op_rules.specs.World.{Rule, Value, World, first_of, none_refused, or_else, refused, ruled, unknown, when}
use Rattle.op_rules.specs.declared.number.Number.{Number}
use Rattle.py_base.specs.declared.builtin.Builtin.TheVariants as builtin
use Rattle.op_rules.specs.declared.number.Number.TheVariants as number_kind
use Rattle.py_base.specs.declared.node.Op.TheVariants as operator

abbrev pub is_tilde : Op → Bool
is_tilde operator.Tilde = true
is_tilde _ = false

abbrev pub number_alone : Op → Option Number → Option Builtin
number_alone op (Some number_kind.Whole) = Some builtin.Int
number_alone op (Some number_kind.Real) = when (not (is_tilde op)) builtin.Float
number_alone op (Some number_kind.Imaginary) = when (not (is_tilde op)) builtin.Complex
number_alone op None = None

abbrev pub level_without_row : Atom-F Atom → Rule
level_without_row Atom-F.Unknown = gives unknown
level_without_row Atom-F.None = none_refused
level_without_row _ = refused

unfoldable pub without_unary_row : World → Op → Atom → Rule
without_unary_row w op a = if stands_in w a (one_method op) then gives unknown else level_without_row (out-Atom a)

abbrev pub own_alone : World → Op → Atom → Option Value
own_alone w op a = first_of (method_of w a (one_method op)) (instances_of (number_alone op (number w a)))

unfoldable pub unary : World → Op → Atom → Rule
unary w op a = or_else (ruled (own_alone w op a)) (without_unary_row w op a)
