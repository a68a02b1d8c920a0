-- What iterating a member gives (Python language reference, 6.2.4, displays, and 8.3, the `for` statement; Python library reference, "Iterator Types").
use Rattle.std.specs.Prelude.{None, Option, Some, if◌then◌else◌, ℕ, ◌||◌}
use Rattle.py_base.specs.declared.ids.ClassId.{ClassId}
use Rattle.type_terms.specs.Order.{literal_class}
use Rattle.type_terms.specs.declared.atom.Atom.{Atom, out-Atom}
use Rattle.type_terms.specs.declared.atom.Atom.TheOpen.{Atom-F}
use Rattle.value_terms.specs.Outcome.{for_each}
use Rattle.value_terms.specs.Term.{fixed}
use Rattle.op_rules.specs.Classes.{file_class, has_any, is_class, is_enum, is_under}
use Rattle.op_rules.specs.Instances.{instance, instances}
use Rattle.op_rules.specs.Names.{iter-name, next-name}
use Rattle.op_rules.specs.Protocols.{by_method, own_method}
use Rattle.op_rules.specs.Slots.{entries, slot, tuple_length}
use Rattle.op_rules.specs.World.{Rule, Value, World, first_of, or_fault, unknown, when}
use Rattle.py_base.specs.declared.builtin.Builtin.TheVariants as builtin

-- the rows of the builtin classes: str iterates str, bytes and range int, TextIO str, and a class under another that iterates has Unknown slots
unfoldable pub builtin_iteration : World → ClassId → Option Value
builtin_iteration w class =
    if is_under w class builtin.Str || is_under w class builtin.TextIo then Some (instance builtin.Str)
    else (if is_under w class builtin.Bytes || is_under w class builtin.Range then Some (instance builtin.Int)
    else when (is_under w class builtin.Iterable) unknown)

-- a list, a set, a dict, a Sequence, an Iterable: slot 0; a tuple: the join of its entries
abbrev pub slots_iteration : World → Atom → Option ℕ → Value
slots_iteration w a (Some count) = entries w a count
slots_iteration w a None = slot w a 0

unfoldable pub own_slots : World → Atom → Value
own_slots w a = slots_iteration w a (tuple_length w a)

abbrev pub generic_iteration : World → Atom → ClassId → Option Value
generic_iteration w a class = if is_class class builtin.Callable || is_class class builtin.Function then None else Some (own_slots w a)

-- enum class: its members, or an instance where it has none
abbrev pub class_iteration : World → ClassId → Option Value
class_iteration w class = when (is_enum w class) (fixed (instances w class))

abbrev pub level_iteration : World → Atom → Atom-F Atom → Option Value
level_iteration w a (Atom-F.Lit value) = builtin_iteration w (literal_class value)
level_iteration w a (Atom-F.Inst class) = builtin_iteration w class
level_iteration w a (Atom-F.Gen class all) = generic_iteration w a class
level_iteration w a (Atom-F.Site site) = generic_iteration w a site.class
level_iteration w a (Atom-F.Class class) = class_iteration w class
level_iteration w a Atom-F.Unknown = Some unknown
level_iteration w a _ = None

-- a member without methods of the file
unfoldable pub plain_iteration : World → Atom → Option Value
plain_iteration w a = level_iteration w a (out-Atom a)

-- what `__iter__` gave: `__next__` of an instance of the file, else its iteration
abbrev pub iterator_of : World → Atom → Option ClassId → Option Value
iterator_of w a (Some class) = by_method w next-name a None
iterator_of w a None = plain_iteration w a

unfoldable pub iterator : World → Atom → Rule
iterator w a = or_fault a (iterator_of w a (file_class a))

-- an instance of the file: its `__iter__`
abbrev pub own_iter : World → Atom → Option ClassId → Option Value
own_iter w a (Some class) = own_method w iter-name a
own_iter w a None = None

-- where it has none: the rows of its builtin classes, then `__getattr__` or an Unknown base
abbrev pub without_iter : World → Atom → Option ClassId → Option Value
without_iter w a (Some class) = first_of (builtin_iteration w class) (when (has_any w class) unknown)
without_iter w a None = plain_iteration w a

-- what `__iter__` gives is iterated once
abbrev pub iterated_by : World → Atom → Option Value → Option Value → Rule
iterated_by w a (Some x) other = for_each x (iterator w)
iterated_by w a None other = or_fault a other

unfoldable pub iterate : World → Atom → Rule
iterate w a = iterated_by w a (own_iter w a (file_class a)) (without_iter w a (file_class a))

-- what it gives alone
abbrev pub iteration : World → Atom → Value
iteration w a = (iterate w a).gives
