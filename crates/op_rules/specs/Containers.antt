-- Operators on lists, sets, dicts and tuples, and `|` of classes (Python library reference, "Sequence Types", "Set Types", "Mapping Types" and "Union Type").
use Rattle.std.specs.Prelude.{Bool, None, Option, false, true, ◌&&◌, ◌||◌}
use Rattle.py_base.specs.declared.node.Op.{Op}
use Rattle.type_terms.specs.declared.atom.Atom.{Atom, out-Atom}
use Rattle.type_terms.specs.declared.atom.Atom.TheOpen.{Atom-F}
use Rattle.value_terms.specs.Term.{join, member}
use Rattle.op_rules.specs.Classes.{is_instance_under}
use Rattle.op_rules.specs.Numbers.{are_both, is_whole}
use Rattle.op_rules.specs.Texts.{is_repeated}
use Rattle.op_rules.specs.World.{Value, World, first_of, unknown, when}
use Rattle.py_base.specs.declared.builtin.Builtin.TheVariants as builtin
use Rattle.py_base.specs.declared.node.Op.TheVariants as operator

abbrev pub both_sides : Atom → Atom → Value
both_sides left right = join (member left) (member right)

abbrev pub is_class_object : Atom-F Atom → Bool
is_class_object (Atom-F.Class class) = true
is_class_object _ = false

abbrev pub is_union_part : Atom-F Atom → Bool
is_union_part (Atom-F.Class class) = true
is_union_part Atom-F.None = true
is_union_part _ = false

abbrev pub is_special : Atom-F Atom → Bool
is_special (Atom-F.Special name) = true
is_special _ = false

-- class `|` class or None, on either side, and a name of typing with anything: Unknown
abbrev pub is_written_union : Atom-F Atom → Atom-F Atom → Bool
is_written_union left right =
    (is_class_object left && is_union_part right) || (is_union_part left && is_class_object right) || is_special left || is_special right

-- list `+` list both; tuple `+` tuple Unknown
abbrev pub added : World → Atom → Atom → Option Value
added w left right =
    first_of (when (are_both w left right builtin.List) (both_sides left right)) (when (are_both w left right builtin.Tuple) unknown)

-- list and int by `*`, on either side, the list; tuple and int Unknown
abbrev pub repeated : World → Atom → Atom → Option Value
repeated w left right =
    first_of (when (is_instance_under w left builtin.List && is_whole w right) (member left))
    (first_of (when (is_whole w left && is_instance_under w right builtin.List) (member right))
    (when (is_repeated w left right builtin.Tuple) unknown))

-- set `- &` left, `| ^` both; dict `|` both
abbrev pub on_sets : World → Atom → Atom → Value → Option Value
on_sets w left right x = when (are_both w left right builtin.Set) x

abbrev pub united : World → Atom → Atom → Option Value
united w left right =
    first_of (on_sets w left right (both_sides left right))
    (first_of (when (are_both w left right builtin.Dict) (both_sides left right))
    (when (is_written_union (out-Atom left) (out-Atom right)) unknown))

unfoldable pub containers : World → Op → Atom → Atom → Option Value
containers w operator.Plus left right = added w left right
containers w operator.Star left right = repeated w left right
containers w operator.Minus left right = on_sets w left right (member left)
containers w operator.BitAnd left right = on_sets w left right (member left)
containers w operator.BitXor left right = on_sets w left right (both_sides left right)
containers w operator.BitOr left right = united w left right
containers w _ left right = None
