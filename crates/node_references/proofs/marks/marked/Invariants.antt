use Rattle.std.proofs.Common.{take}
use Rattle.node_references.specs.Marks.{AreMarks}
use Rattle.node_references.proofs.marks.marked.Given as goal

abbrev pub invariant-loop-node : goal.invariant-loop-node
invariant-loop-node l = AreMarks (take l.node-index l.nodes) l.count l.marks
