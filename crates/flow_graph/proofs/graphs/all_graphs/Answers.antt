use Rattle.std.proofs.Common.{ℕ, slice_get, List, subst}
use Rattle.py_base.specs.declared.ids.PointId.{PointId}
use Rattle.point_graph.specs.Graph.{points_or}
use Rattle.flow_graph.specs.Table.{AreOccurring}
use Rattle.flow_graph.proofs.Occurring.{graphs_more, more_long}
use Rattle.flow_graph.proofs.graphs.all_graphs.Goals as goal

pub loop-place-preserved : goal.loop-place-preserved
loop-place-preserved c = record {
  count = more_long c.loop-place.graphs c.push.new.self c.in_ok-refs.refs c.loop-place.place c.loop-place.invariant.count c.in_ok-push.ensures.ok;
  graphs = graphs_more c.args.graph.now.points c.args.reads.now c.args.bindings.now (λ (n : ℕ). points_or (slice_get c.args.graph.now.graphs n))
      c.loop-place.graphs c.push.new.self c.in_ok-refs.refs c.loop-place.place c.loop-place.invariant.count c.loop-place.invariant.graphs
      c.in_ok-push.ensures.ok
      (subst (λ (l : List PointId). AreOccurring c.args.graph.now.points c.args.reads.now c.args.bindings.now l c.in_ok-refs.refs) c.points-points.ensures.value c.in_ok-refs.ensures);
}
