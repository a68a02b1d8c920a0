use Rattle.std.proofs.Common.{◌≡◌, ◌-◌, length}
use Rattle.node_shapes.specs.Outward.{outward}
use Rattle.node_shapes.specs.Uses.{in_pattern_string}
use Rattle.node_shapes.proofs.steps.Outward.is_in_pattern_string.Given as goal

abbrev pub invariant-loop-step : goal.invariant-loop-step
invariant-loop-step l = in_pattern_string (outward l.self.nodes l.at) ≡ in_pattern_string (outward l.self.nodes l.fn.node)

abbrev pub decreases-loop-step : goal.decreases-loop-step
decreases-loop-step l = length l.self.nodes - l.at.0
