use Rattle.point_graph.specs.Building.{AreMore, IsStartBelow, Continues}
use Rattle.std.specs.List.{flat_map}
use Rattle.point_graph.specs.Order.{roots_below, start_edge}
use Rattle.point_graph.proofs.starts.add_starts.Given as goal

abbrev pub invariant-loop-at : goal.invariant-loop-at
invariant-loop-at l = record {
  steps : AreMore l.points.keys (IsStartBelow l.forms l.points.keys l.at) l.initial.steps l.steps;
  listed : Continues l.points.keys (flat_map (start_edge l.points.keys) (roots_below l.forms l.at)) l.initial.steps l.steps;
}
