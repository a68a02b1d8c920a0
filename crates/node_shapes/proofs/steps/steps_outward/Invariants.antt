use Rattle.std.proofs.Common.{◌≡◌, length, drop}
use Rattle.node_shapes.proofs.StepTables.{StepsFrom}
use Rattle.node_shapes.proofs.steps.steps_outward.Given as goal

abbrev pub invariant-loop-number : goal.invariant-loop-number
invariant-loop-number l = record {
  rest : StepsFrom l.tree.nodes l.number (drop l.number l.tree.nodes) l.steps;
  count : length l.steps ≡ length l.tree.nodes;
}
