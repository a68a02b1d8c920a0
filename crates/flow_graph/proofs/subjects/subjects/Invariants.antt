use Rattle.std.proofs.Common.{take}
use Rattle.flow_graph.specs.Numbering.{AreSubjects}
use Rattle.flow_graph.proofs.subjects.subjects.Given as goal

abbrev pub invariant-loop-form : goal.invariant-loop-form
invariant-loop-form l = AreSubjects (take l.form-index l.forms) l.count l.table
