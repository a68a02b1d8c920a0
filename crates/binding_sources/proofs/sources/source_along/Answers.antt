use Rattle.node_shapes.specs.Outward.{outward}
use Rattle.binding_sources.specs.Sources.{source_along}
use Rattle.binding_sources.proofs.Handings.{handed-whole}
use Rattle.binding_sources.proofs.sources.source_along.Goals as goal

pub loop-step-init : goal.loop-step-init
loop-step-init c = handed-whole (source_along c.args.steps.now.nodes (outward c.args.steps.now.nodes c.args.node))
