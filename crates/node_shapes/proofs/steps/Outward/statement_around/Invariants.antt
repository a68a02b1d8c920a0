use Rattle.std.proofs.Common.{◌≡◌, ◌-◌, length}
use Rattle.node_shapes.specs.Around.{statement_along, statement_around}
use Rattle.node_shapes.specs.Outward.{outward}
use Rattle.node_shapes.proofs.steps.Outward.statement_around.Given as goal

abbrev pub invariant-loop-step : goal.invariant-loop-step
invariant-loop-step l = statement_along l.at (outward l.self.nodes l.at) ≡ statement_around l.self.nodes l.fn.node

abbrev pub decreases-loop-step : goal.decreases-loop-step
decreases-loop-step l = length l.self.nodes - l.at.0
