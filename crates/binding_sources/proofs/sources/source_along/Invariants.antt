use Rattle.std.proofs.Common.{◌≡◌, ◌-◌, length}
use Rattle.std.specs.Option.{option_map}
use Rattle.node_shapes.specs.Outward.{outward}
use Rattle.binding_sources.specs.Sources.{through, source_along}
use Rattle.binding_sources.proofs.sources.source_along.Given as goal

abbrev pub invariant-loop-step : goal.invariant-loop-step
invariant-loop-step l = option_map (through l.within) (source_along l.steps.nodes (outward l.steps.nodes l.at)) ≡ source_along l.steps.nodes (outward l.steps.nodes l.fn.node)

abbrev pub decreases-loop-step : goal.decreases-loop-step
decreases-loop-step l = length l.steps.nodes - l.at.0
