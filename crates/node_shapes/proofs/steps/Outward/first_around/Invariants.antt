use Rattle.std.proofs.Common.{◌≡◌, ◌-◌, length}
use Rattle.node_shapes.specs.Around.{is_sought}
use Rattle.node_shapes.specs.Outward.{outward, first_around}
use Rattle.node_shapes.proofs.steps.Outward.first_around.Given as goal

abbrev pub invariant-loop-step : goal.invariant-loop-step
invariant-loop-step l = first_around (is_sought l.sought) (outward l.self.nodes l.at) ≡ first_around (is_sought l.sought) (outward l.self.nodes l.fn.node)

abbrev pub decreases-loop-step : goal.decreases-loop-step
decreases-loop-step l = length l.self.nodes - l.at.0
