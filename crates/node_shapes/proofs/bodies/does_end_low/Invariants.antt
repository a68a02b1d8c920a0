use Rattle.std.proofs.Common.{◌≡◌, drop}
use Rattle.node_shapes.specs.Bodies.{ends_low}
use Rattle.node_shapes.proofs.Members.{ends_by}
use Rattle.node_shapes.proofs.bodies.does_end_low.Given as goal

abbrev pub invariant-loop-byte : goal.invariant-loop-byte
invariant-loop-byte l = ends_by l.is_low (drop l.byte-index l.text) ≡ ends_low l.text
