use Rattle.std.proofs.Common.{ℕ}
use Rattle.flow_graph.specs.Numbering.{read_by}
use Rattle.flow_graph.proofs.Marking.{table_more}
use Rattle.flow_graph.proofs.binding.reads.Goals as goal

pub loop-place-preserved : goal.loop-place-preserved
loop-place-preserved c = table_more (λ (i : ℕ). read_by c.args.tree.now.nodes c.args.marks.now.run c.args.marks.now.bound c.args.table.now (record { 0 = i }))
    c.loop-place.place c.loop-place.list c.push.new.self c.read_at_node.result c.loop-place.invariant c.in_ok-push.ensures.ok c.read_at_node.ensures
