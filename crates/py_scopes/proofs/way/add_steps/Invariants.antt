use Rattle.std.proofs.Common.{◌≡◌, length, drop}
use Rattle.py_scopes.proofs.Outward.{PlacesFrom}
use Rattle.py_scopes.proofs.way.add_steps.Given as goal

abbrev pub invariant-loop-place : goal.invariant-loop-place
invariant-loop-place l = record {
  rest : PlacesFrom l.tree.nodes l.at.0 l.node l.place (drop l.place l.parts) l.fn.steps l.steps;
  count : length l.steps ≡ length l.fn.steps;
}
