use Rattle.flow_graph.specs.Numbering.{running_by}
use Rattle.flow_graph.proofs.Marking.{table_more}
use Rattle.flow_graph.proofs.subjects.running.Goals as goal

pub loop-place-preserved : goal.loop-place-preserved
loop-place-preserved c = table_more (running_by c.args.run.now c.args.table.now)
    c.loop-place.place c.loop-place.list c.push.new.self c.running_at.result c.loop-place.invariant c.in_ok-push.ensures.ok c.running_at.ensures
