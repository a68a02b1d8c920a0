use Rattle.std.proofs.Common.{◌≡◌, map}
use Rattle.node_shapes.specs.Items.{first_ids}
use Rattle.node_shapes.specs.Tables.{no_mark}
use Rattle.node_shapes.proofs.bodies.no_marks.Given as goal

abbrev pub invariant-loop : goal.invariant-loop
invariant-loop l = l.marks ≡ map no_mark (first_ids l.counter)
