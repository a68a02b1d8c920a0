use Rattle.std.proofs.Common.{ℕ, slice_get}
use Rattle.flow_graph.specs.Numbering.{binding_id, IsTable}
use Rattle.flow_graph.proofs.binding.bindings.Given as goal

abbrev pub invariant-loop-place : goal.invariant-loop-place
invariant-loop-place l = IsTable (λ (i : ℕ). binding_id l.tree.nodes l.bound l.table (slice_get l.graph.points i)) l.place l.list
