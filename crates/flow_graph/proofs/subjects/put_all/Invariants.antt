use Rattle.std.proofs.Common.{take}
use Rattle.flow_graph.specs.Numbering.{IsPut}
use Rattle.flow_graph.proofs.subjects.put_all.Given as goal

abbrev pub invariant-loop-case : goal.invariant-loop-case
invariant-loop-case l = IsPut (take l.case-index l.cases) l.subject l.initial.table l.table
