use Rattle.std.proofs.Common.{ℕ}
use Rattle.flow_graph.specs.Numbering.{read_by, IsTable}
use Rattle.flow_graph.proofs.binding.reads.Given as goal

abbrev pub invariant-loop-place : goal.invariant-loop-place
invariant-loop-place l = IsTable (λ (i : ℕ). read_by l.tree.nodes l.marks.run l.marks.bound l.table (record { 0 = i })) l.place l.list
