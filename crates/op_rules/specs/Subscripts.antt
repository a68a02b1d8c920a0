-- What a subscript gives, for one member and one member of the index (Python language reference, 6.3.2, subscriptions, and 6.3.3, slicings). An index of None stands for a slice.
use Rattle.std.specs.Prelude.{None, Option, Some, if◌then◌else◌, nat_lt, negsuc, pos, suc, ℕ, ℤ, ◌-◌, ◌||◌}
use Rattle.py_base.specs.declared.ids.ClassId.{ClassId}
use Rattle.type_terms.specs.Order.{literal_class}
use Rattle.type_terms.specs.declared.atom.Atom.{Atom, out-Atom}
use Rattle.type_terms.specs.declared.atom.Atom.TheOpen.{Atom-F}
use Rattle.type_terms.specs.declared.literal.Literal.{Literal}
use Rattle.value_terms.specs.Term.{fixed, member}
use Rattle.op_rules.specs.Classes.{is_class, is_enum, is_under}
use Rattle.op_rules.specs.Instances.{instance, instances}
use Rattle.op_rules.specs.Names.{getitem-name}
use Rattle.op_rules.specs.Protocols.{by_method}
use Rattle.op_rules.specs.Slots.{entries, slot, tuple_length}
use Rattle.op_rules.specs.World.{Rule, Value, World, or_fault, unknown, when}
use Rattle.py_base.specs.declared.builtin.Builtin.TheVariants as builtin
use Rattle.type_terms.specs.declared.literal.Literal.TheVariants as literal

-- the place of a literal index, which counts from the end where it is negative
abbrev pub place_at : ℤ → ℕ → Option ℕ
place_at (pos n) count = when (nat_lt n count) n
place_at (negsuc n) count = when (nat_lt n count) (count - suc n)

abbrev pub entry_at : World → Atom → Option ℕ → Option Value
entry_at w a (Some place) = Some (slot w a place)
entry_at w a None = None

-- a tuple of known length: the slot of a literal index, none out of range; another index the join
abbrev pub literal_entry : World → Atom → ℕ → Literal → Option Value
literal_entry w a count (literal.Int z) = entry_at w a (place_at z count)
literal_entry w a count _ = Some (entries w a count)

abbrev pub level_entry : World → Atom → ℕ → Atom-F Atom → Option Value
level_entry w a count (Atom-F.Lit value) = literal_entry w a count value
level_entry w a count _ = Some (entries w a count)

-- a slice of it: Unknown
abbrev pub tuple_entry : World → Atom → ℕ → Option Atom → Option Value
tuple_entry w a count (Some index) = level_entry w a count (out-Atom index)
tuple_entry w a count None = Some unknown

-- this of an index, and that of a slice
abbrev pub indexed : Option Atom → Value → Value → Value
indexed (Some index) item whole = item
indexed None item whole = whole

-- list, Sequence, `tuple[T, ...]`: the slot, a slice itself
abbrev pub sequence_entry : World → Atom → Option Atom → Value
sequence_entry w a index = indexed index (slot w a 0) (member a)

abbrev pub tuple_subscript : World → Atom → Option Atom → Option ℕ → Option Value
tuple_subscript w a index (Some count) = tuple_entry w a count index
tuple_subscript w a index None = Some (sequence_entry w a index)

-- dict slot 1
unfoldable pub slots_subscript : World → Atom → Option Atom → ClassId → Option Value
slots_subscript w a index class =
    if is_class class builtin.List || is_class class builtin.Sequence then Some (sequence_entry w a index)
    else (if is_class class builtin.Tuple then tuple_subscript w a index (tuple_length w a)
    else when (is_class class builtin.Dict) (slot w a 1))

-- str str; bytes int, slice bytes; range int, slice range; a class under list, tuple or Sequence Unknown, slice
-- itself; a class under dict Unknown
unfoldable pub builtin_subscript : World → Atom → Option Atom → ClassId → Option Value
builtin_subscript w a index class =
    if is_under w class builtin.Str then Some (instance builtin.Str)
    else (if is_under w class builtin.Bytes then Some (indexed index (instance builtin.Int) (instance builtin.Bytes))
    else (if is_under w class builtin.Range then Some (indexed index (instance builtin.Int) (instance builtin.Range))
    else (if is_under w class builtin.Sequence then Some (indexed index unknown (member a))
    else when (is_under w class builtin.Dict) unknown)))

abbrev pub instance_subscript : World → Atom → Option Atom → ClassId → Option Value
instance_subscript w a index class = by_method w getitem-name a (builtin_subscript w a index class)

-- enum class its members, or an instance where it has none; other class itself
unfoldable pub class_subscript : World → Atom → ClassId → Value
class_subscript w a class = if is_enum w class then fixed (instances w class) else member a

abbrev pub level_subscript : World → Atom → Option Atom → Atom-F Atom → Option Value
level_subscript w a index (Atom-F.Lit value) = instance_subscript w a index (literal_class value)
level_subscript w a index (Atom-F.Inst class) = instance_subscript w a index class
level_subscript w a index (Atom-F.Gen class all) = slots_subscript w a index class
level_subscript w a index (Atom-F.Site site) = slots_subscript w a index site.class
level_subscript w a index (Atom-F.Class class) = Some (class_subscript w a class)
level_subscript w a index (Atom-F.Special name) = Some unknown
level_subscript w a index Atom-F.Unknown = Some unknown
level_subscript w a index _ = None

unfoldable pub subscript : World → Atom → Option Atom → Rule
subscript w a index = or_fault a (level_subscript w a index (out-Atom a))
