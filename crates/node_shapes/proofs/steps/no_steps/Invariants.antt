use Rattle.std.proofs.Common.{◌≡◌, map}
use Rattle.node_shapes.specs.Items.{first_ids}
use Rattle.node_shapes.specs.Tables.{no_step}
use Rattle.node_shapes.proofs.steps.no_steps.Given as goal

abbrev pub invariant-loop : goal.invariant-loop
invariant-loop l = l.steps ≡ map no_step (first_ids l.counter)
