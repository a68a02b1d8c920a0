use Rattle.std.proofs.Common.{◌≡◌, length}
use Rattle.node_shapes.proofs.Marks.{AreMarked}
use Rattle.node_shapes.proofs.bodies.yields.Given as goal

abbrev pub invariant-loop-number : goal.invariant-loop-number
invariant-loop-number l = record {
  marked : AreMarked l.outward.nodes l.number l.marks;
  count : length l.marks ≡ length l.outward.nodes;
}
