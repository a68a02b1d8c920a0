use Rattle.flow_graph.proofs.Occurring.{occurs_next, occurs_all, listed_next}
use Rattle.flow_graph.proofs.graphs.occurring.Goals as goal

pub loop-point-preserved : goal.loop-point-preserved
loop-point-preserved c = record {
  exact = occurs_next c.args.graph.now.points c.args.reads.now c.args.bindings.now c.args.points.now c.loop-point.point-index c.loop-point.refs.keys c.add_occurring.new.refs.keys
      c.loop-point-test.true c.loop-point.invariant.exact c.in_ok-add_occurring.ensures.exact;
  once = c.in_ok-add_occurring.ensures.once c.loop-point.invariant.once;
  listed = listed_next c.args.graph.now.points c.args.reads.now c.args.bindings.now c.args.points.now c.loop-point.point-index c.loop-point.refs.keys c.add_occurring.new.refs.keys
      c.loop-point-test.true c.loop-point.invariant.listed c.in_ok-add_occurring.ensures.listed;
}

pub returns : goal.returns
returns c = occurs_all c.args.graph.now.points c.args.reads.now c.args.bindings.now c.args.points.now c.loop-point.point-index c.loop-point.refs.keys c.in_ok-list.list
    c.loop-point-test.false c.loop-point.invariant.exact c.loop-point.invariant.once c.loop-point.invariant.listed c.in_ok-list.ensures
