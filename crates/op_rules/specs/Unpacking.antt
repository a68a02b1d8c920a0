-- What a target list takes from a member (Python language reference, 7.2, assignment statements): the slots of a tuple of its length; a tuple of another length gives Unknown and a fault; another
-- member gives its iteration.
use Rattle.std.specs.Prelude.{Bool, None, Option, Some, false, if◌then◌else◌, not, ℕ, ◌==◌}
use Rattle.type_terms.specs.declared.atom.Atom.{Atom}
use Rattle.op_rules.specs.Iterations.{iteration}
use Rattle.op_rules.specs.Slots.{slot, tuple_length}
use Rattle.op_rules.specs.World.{Value, World, unknown}

abbrev pub tuple_part : World → Atom → ℕ → ℕ → ℕ → Value
tuple_part w a targets place count = if count == targets then slot w a place else unknown

abbrev pub part_by : World → Atom → ℕ → ℕ → Option ℕ → Value
part_by w a targets place (Some count) = tuple_part w a targets place count
part_by w a targets place None = iteration w a

-- what the target at a place of so many takes; a starred one takes Unknown
unfoldable pub part : World → Atom → ℕ → ℕ → Value
part w a targets place = part_by w a targets place (tuple_length w a)

-- a tuple of another length
abbrev pub is_other : ℕ → Option ℕ → Bool
is_other targets (Some count) = not (count == targets)
is_other targets None = false

-- the fault of unpacking; where the member is no tuple of known length, the fault of its iteration counts
abbrev pub is_unfit : World → Atom → ℕ → Bool
is_unfit w a targets = is_other targets (tuple_length w a)
