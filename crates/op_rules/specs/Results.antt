-- The forms of result of builtin functions, methods and class calls (Python library reference, "Built-in Functions" and "Built-in Types"). A call that builds gives the value made
-- at its node; what stands in the slots of that value is in Built.
use Rattle.std.specs.Prelude.{None, Option, Some, if◌then◌else◌, nat_lt, suc, zero, ℕ, ◌==◌}
use Rattle.py_base.specs.Builtins.{id_of}
use Rattle.py_base.specs.declared.ids.ClassId.{ClassId}
use Rattle.py_base.specs.declared.ids.InnerTuple.{InnerTuple}
use Rattle.py_base.specs.declared.ids.NodeId.{NodeId}
use Rattle.type_terms.specs.Widen.{all_members, widened}
use Rattle.type_terms.specs.declared.atom.Atom.{Atom, out-Atom}
use Rattle.type_terms.specs.declared.atom.Atom.TheOpen.{Atom-F}
use Rattle.type_terms.specs.declared.rows.RowResult.{RowResult}
use Rattle.value_terms.specs.Term.{each, fixed, join, mapped, member, never, read}
use Rattle.op_rules.specs.Classes.{class_of, is_instance_under}
use Rattle.op_rules.specs.Instances.{instance}
use Rattle.op_rules.specs.Slots.{slot}
use Rattle.op_rules.specs.World.{Value, World, unknown}
use Rattle.value_terms.specs.declared.ask.Ask.TheVariants as ask
use Rattle.type_terms.specs.declared.atom.Atom.TheVariants as atom
use Rattle.py_base.specs.declared.builtin.Builtin.TheVariants as builtin
use Rattle.type_terms.specs.declared.rows.RowResult.TheVariants as form
use Rattle.py_base.specs.declared.ids.InnerTuple.TheVariants as tuples

-- a call: how many plain arguments it has, and its node
pub record CallSite : Type 0 where
  pub count : ℕ
  pub node : NodeId

-- no arguments, as where `map` calls its first
abbrev pub without_arguments : NodeId → CallSite
without_arguments node = record { count = 0; node = node }

-- an argument of so many, counted from 0, or this where it isn't there
abbrev pub argument_or : Value → ℕ → ℕ → Value
argument_or other count place = if nat_lt place count then read (ask.Argument place) else other

-- its type: Unknown where it isn't there
abbrev pub argument : ℕ → ℕ → Value
argument count place = argument_or unknown count place

-- what it iterates, by what iterating a member gives: Unknown where it isn't there
abbrev pub iterated_argument : (Atom → Value) → ℕ → ℕ → Value
iterated_argument iterates count place = each (argument count place) iterates

-- the first so many, joined
abbrev pub first_arguments : ℕ → Value
first_arguments zero = never
first_arguments (suc n) = join (first_arguments n) (read (ask.Argument n))

abbrev pub widened_value : World → Value → Value
widened_value w x = mapped x (widened w.names)

-- a value made at a node
abbrev pub site_at : NodeId → ClassId → InnerTuple → Value
site_at node class inner = member (atom.Site (record { node = node; class = class; inner = inner }))

abbrev pub iterable_at : NodeId → Value
iterable_at node = site_at node (id_of builtin.Iterable) tuples.None

-- `abs`: int and bool to int, float to float, else Unknown
unfoldable pub magnitude : World → Atom → Value
magnitude w a =
    if is_instance_under w a builtin.Int then instance builtin.Int
    else (if is_instance_under w a builtin.Float then instance builtin.Float else unknown)

-- `min`, `max`: what one argument iterates, else the join of all
abbrev pub extreme : (Atom → Value) → ℕ → Value
extreme iterates count = if nat_lt count 2 then iterated_argument iterates count 0 else first_arguments count

-- `sum`: what the argument iterates, widened, and int
abbrev pub summed : (Atom → Value) → World → ℕ → Value
summed iterates w count = join (widened_value w (iterated_argument iterates count 0)) (instance builtin.Int)

-- `round`: int with one argument, else the first, widened
abbrev pub rounded : World → ℕ → Value
rounded w count = if count == 1 then instance builtin.Int else widened_value w (argument count 0)

-- `super()`: Super of the class around the call, Unknown where there is none
abbrev pub super_in : Option ClassId → Value
super_in (Some class) = member (atom.Super class)
super_in None = unknown

-- `type(x)`: the class of each member
abbrev pub level_type : Atom → Atom-F Atom → Value
level_type a Atom-F.Unknown = unknown
level_type a _ = member (atom.Class (class_of a))

unfoldable pub type_of_member : Atom → Value
type_of_member a = level_type a (out-Atom a)

-- with three arguments it makes a class that nothing is known of
abbrev pub type_called : ℕ → Value
type_called count = if count == 3 then unknown else each (argument count 0) type_of_member

-- a slot of the receiver, and the second argument or this where it isn't there
abbrev pub slot_or : World → Atom → Value → ℕ → ℕ → Value
slot_or w receiver other place count = join (slot w receiver place) (argument_or other count 1)

-- what a call of a row gives that looks at its receiver, or makes a value at its node
abbrev pub other_gives : World → RowResult → Atom → CallSite → Value
other_gives w (form.Iterated class place) receiver call = site_at call.node class tuples.None
other_gives w (form.Unfilled class) receiver call = site_at call.node class tuples.None
other_gives w form.EnumMembers receiver call = fixed (all_members w.names (class_of receiver))
other_gives w form.Receiver receiver call = member receiver
other_gives w (form.Slot place) receiver call = slot w receiver place
other_gives w (form.SlotOrNone place) receiver call = slot_or w receiver (member atom.None) place call.count
other_gives w (form.SlotOrArgument place) receiver call = slot_or w receiver never place call.count
-- `map`, `enumerate`, `zip`, `keys`, `values`, `items`
other_gives w _ receiver call = iterable_at call.node

-- what a call of the row gives; the receiver is what the method is a method of, or for a class call the class
unfoldable pub row_gives : (Atom → Value) → World → RowResult → Atom → CallSite → Value
row_gives iterates w (form.Fixed type) receiver call = fixed type
row_gives iterates w form.Nothing receiver call = never
row_gives iterates w form.Magnitude receiver call = each (argument call.count 0) (magnitude w)
row_gives iterates w form.Extreme receiver call = extreme iterates call.count
row_gives iterates w form.Sum receiver call = summed iterates w call.count
row_gives iterates w form.Rounded receiver call = rounded w call.count
row_gives iterates w form.FirstArgument receiver call = argument call.count 0
row_gives iterates w form.SuperAround receiver call = super_in (w.facts.class_around call.node)
row_gives iterates w form.ClassOfEach receiver call = type_called call.count
row_gives iterates w other receiver call = other_gives w other receiver call
