use Rattle.std.proofs.Common.{◌≡◌, ◌++◌, drop}
use Rattle.flow_rows.specs.Routes.{arrows_to}
use Rattle.flow_rows.proofs.path.add_arrows.Given as goal

abbrev pub invariant-loop-point : goal.invariant-loop-point
invariant-loop-point l = l.arrows ++ arrows_to l.from l.kind (drop l.point-index l.points) ≡ l.initial.arrows ++ arrows_to l.from l.kind l.points
