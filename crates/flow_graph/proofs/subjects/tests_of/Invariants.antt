use Rattle.std.proofs.Common.{ℕ}
use Rattle.flow_graph.specs.Numbering.{test_by, IsTable}
use Rattle.flow_graph.proofs.subjects.tests_of.Given as goal

abbrev pub invariant-loop-place : goal.invariant-loop-place
invariant-loop-place l = IsTable (λ (i : ℕ). test_by l.tree l.marks.run l.marks.bound l.subjects l.table (record { 0 = i })) l.place l.list
