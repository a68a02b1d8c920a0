use Rattle.node_shapes.proofs.ParameterSteps.{parameters_with_start}
use Rattle.node_shapes.proofs.parameters.parameters.Goals as goal

pub loop-part-init : goal.loop-part-init
loop-part-init c =
    rw (c.new-list.ensures, c.count_slashes-slashes.ensures, c.places-parts.ensures) (parameters_with_start c.args.tree.now.nodes _)
