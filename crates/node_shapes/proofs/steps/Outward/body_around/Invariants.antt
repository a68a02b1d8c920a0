use Rattle.std.proofs.Common.{◌≡◌, ◌-◌, length}
use Rattle.node_shapes.specs.Around.{is_sought, body_along, body_around}
use Rattle.node_shapes.specs.Outward.{outward}
use Rattle.node_shapes.proofs.steps.Outward.body_around.Given as goal

abbrev pub invariant-loop-step : goal.invariant-loop-step
invariant-loop-step l = body_along (is_sought l.sought) l.inside (outward l.self.nodes l.at) ≡ body_around (is_sought l.sought) l.self.nodes l.fn.node

abbrev pub decreases-loop-step : goal.decreases-loop-step
decreases-loop-step l = length l.self.nodes - l.at.0
