use Rattle.std.proofs.Common.{◌≡◌, length, drop}
use Rattle.node_shapes.proofs.StepTables.{PlacesFrom}
use Rattle.node_shapes.proofs.steps.add_steps.Given as goal

abbrev pub invariant-loop-place : goal.invariant-loop-place
invariant-loop-place l = record {
  rest : PlacesFrom l.tree.nodes l.at.0 l.node l.place (drop l.place l.parts) l.fn.steps l.steps;
  count : length l.steps ≡ length l.fn.steps;
}
