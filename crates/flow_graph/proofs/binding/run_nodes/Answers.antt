use Rattle.std.proofs.Common.{arith}
use Rattle.flow_graph.specs.Bindings.{run_nodes}
use Rattle.flow_graph.proofs.Gathering.{runs_step}
use Rattle.flow_graph.proofs.binding.run_nodes.Goals as goal

pub loop-place-preserved : goal.loop-place-preserved
loop-place-preserved c = runs_step c.args.graph.now.points c.loop-place.place c.loop-place.list c.add_run_at.new.list (run_nodes c.args.graph.now.points)
    (omega (arith, c.loop-place-test.true, c.len-place-end.ensures)) c.loop-place.invariant c.in_ok-add_run_at.ensures
