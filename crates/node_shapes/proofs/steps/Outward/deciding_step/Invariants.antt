use Rattle.std.proofs.Common.{◌≡◌, ◌-◌, length}
use Rattle.node_shapes.specs.Outward.{outward}
use Rattle.node_shapes.specs.Uses.{deciding}
use Rattle.node_shapes.specs.Tables.{first_step}
use Rattle.node_shapes.proofs.steps.Outward.deciding_step.Given as goal

abbrev pub invariant-loop-step : goal.invariant-loop-step
invariant-loop-step l = first_step (deciding (outward l.self.nodes l.at)) ≡ first_step (deciding (outward l.self.nodes l.fn.node))

abbrev pub decreases-loop-step : goal.decreases-loop-step
decreases-loop-step l = length l.self.nodes - l.at.0
