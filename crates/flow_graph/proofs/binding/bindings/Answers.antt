use Rattle.std.proofs.Common.{ℕ, slice_get}
use Rattle.flow_graph.specs.Numbering.{binding_id}
use Rattle.flow_graph.proofs.Marking.{table_more}
use Rattle.flow_graph.proofs.binding.bindings.Goals as goal

pub loop-place-preserved : goal.loop-place-preserved
loop-place-preserved c = table_more (λ (i : ℕ). binding_id c.args.tree.now.nodes c.args.bound.now c.args.table.now (slice_get c.args.graph.now.points i))
    c.loop-place.place c.loop-place.list c.push.new.self c.binding_at.result c.loop-place.invariant c.in_ok-push.ensures.ok c.binding_at.ensures
