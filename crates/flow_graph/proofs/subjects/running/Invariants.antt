use Rattle.flow_graph.specs.Numbering.{running_by, IsTable}
use Rattle.flow_graph.proofs.subjects.running.Given as goal

abbrev pub invariant-loop-place : goal.invariant-loop-place
invariant-loop-place l = IsTable (running_by l.run l.table) l.place l.list
