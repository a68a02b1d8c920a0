use Rattle.std.proofs.Common.{◌≡◌, drop}
use Rattle.node_shapes.specs.Parts.{last_or}
use Rattle.node_shapes.proofs.parts.last_or.Given as goal

abbrev pub invariant-loop-part : goal.invariant-loop-part
invariant-loop-part l = last_or l.last (drop l.part-index l.parts) ≡ last_or l.fn.here l.parts
