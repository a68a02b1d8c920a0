-- Operators on text (Python library reference, "Common Sequence Operations" and "printf-style String Formatting"): `+` of str with str and bytes with bytes; `*` of either with an
-- int, on either side; `%` of either on the left with anything.
use Rattle.std.specs.Prelude.{Bool, Option, Some, false, if◌then◌else◌, ◌&&◌, ◌||◌}
use Rattle.py_base.specs.declared.builtin.Builtin.{Builtin}
use Rattle.py_base.specs.declared.node.Op.{Op}
use Rattle.type_terms.specs.declared.atom.Atom.{Atom}
use Rattle.op_rules.specs.Classes.{is_instance_under}
use Rattle.op_rules.specs.Instances.{instance}
use Rattle.op_rules.specs.Numbers.{are_both, is_whole}
use Rattle.op_rules.specs.World.{Value, World, when}
use Rattle.py_base.specs.declared.builtin.Builtin.TheVariants as builtin
use Rattle.py_base.specs.declared.node.Op.TheVariants as operator

-- one side is this and the other an int

abbrev pub is_repeated : World → Atom → Atom → Builtin → Bool
is_repeated w left right b = (is_instance_under w left b && is_whole w right) || (is_whole w left && is_instance_under w right b)

abbrev pub is_text_of : World → Op → Atom → Atom → Builtin → Bool
is_text_of w operator.Plus left right b = are_both w left right b
is_text_of w operator.Star left right b = is_repeated w left right b
is_text_of w operator.Percent left right b = is_instance_under w left b
is_text_of w _ left right b = false

unfoldable pub texts : World → Op → Atom → Atom → Option Value
texts w op left right =
    if is_text_of w op left right builtin.Str then Some (instance builtin.Str)
    else when (is_text_of w op left right builtin.Bytes) (instance builtin.Bytes)
