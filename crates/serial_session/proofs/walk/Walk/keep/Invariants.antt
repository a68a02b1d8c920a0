use Rattle.std.proofs.Common.{◌≡◌, ◌<◌, length}
use Rattle.serial_session.specs.LineTypes.{type_at, atoms_of}
use Rattle.serial_session.proofs.walk.Walk.keep.Given as goal

abbrev pub invariant-loop-above : goal.invariant-loop-above
invariant-loop-above l = (l.self ≡ l.initial.self) × (l.at < length l.self) × (atoms_of l.found ≡ type_at l.self l.at)

abbrev pub decreases-loop-above : goal.decreases-loop-above
decreases-loop-above l = l.at
