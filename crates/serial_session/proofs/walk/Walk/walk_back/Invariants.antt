use Rattle.std.proofs.Common.{◌≡◌, ◌<◌, length}
use Rattle.serial_session.specs.LineTypes.{type_at}
use Rattle.serial_session.proofs.walk.Walk.walk_back.Given as goal

abbrev pub invariant-loop-found : goal.invariant-loop-found
invariant-loop-found l = (l.at < length l.self) × (type_at l.self l.at ≡ type_at l.self l.line)

abbrev pub decreases-loop-found : goal.decreases-loop-found
decreases-loop-found l = l.at
