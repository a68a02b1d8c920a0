use Rattle.std.proofs.Common.{◌≡◌, ◌++◌, drop}
use Rattle.node_shapes.specs.Parameters.{parameters}
use Rattle.node_shapes.proofs.ParameterSteps.{parameters_with}
use Rattle.node_shapes.proofs.parameters.parameters.Given as goal

abbrev pub invariant-loop-part : goal.invariant-loop-part
invariant-loop-part l =
    l.list ++ parameters_with l.fn.tree.nodes l.slashes l.has_star (drop l.part-index l.parts) ≡ parameters l.fn.tree.nodes l.fn.node
