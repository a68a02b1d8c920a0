use Rattle.std.proofs.Common.{◌≡◌, ◌↔◌, [], take}
use Rattle.std.specs.List.{flat_map}
use Rattle.py_base.specs.declared.ids.RefId.{RefId}
use Rattle.flow_rows.specs.Flow.{Has}
use Rattle.point_graph.specs.Order.{added_once}
use Rattle.flow_graph.specs.Table.{OccursIn, AreOnce, same_id, occurring_at}
use Rattle.flow_graph.proofs.graphs.occurring.Given as goal

abbrev pub invariant-loop-point : goal.invariant-loop-point
invariant-loop-point l = record {
  exact : (r : RefId) → Has l.refs.keys r ↔ OccursIn l.graph.points l.reads l.bindings (take l.point-index l.points) r;
  once : AreOnce l.refs.keys;
  listed : l.refs.keys ≡ added_once same_id [] (flat_map (occurring_at l.graph.points l.reads l.bindings) (take l.point-index l.points));
}
