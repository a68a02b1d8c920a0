use Rattle.std.proofs.Common.{take}
use Rattle.std.specs.List.{flat_map}
use Rattle.flow_rows.specs.Flow.{Has}
use Rattle.flow_rows.specs.Edges.{both_ends}
use Rattle.point_graph.specs.Building.{Enters, Joins, AreMore, Comes, Continues}
use Rattle.point_graph.proofs.homes.enter_edges.Given as goal

abbrev pub invariant-loop-edge : goal.invariant-loop-edge
invariant-loop-edge l = record {
  enters : Enters l.graph (Joins (take l.edge-index l.edges)) l.initial.numbering.points.keys l.numbering.points.keys
      l.initial.numbering.homes l.numbering.homes l.initial.list l.list;
  steps : AreMore l.numbering.points.keys (Has (take l.edge-index l.edges)) l.initial.steps l.steps;
  comes : Comes (flat_map both_ends (take l.edge-index l.edges)) l.initial.numbering.points.keys l.numbering.points.keys l.initial.list l.list;
  listed : Continues l.numbering.points.keys (take l.edge-index l.edges) l.initial.steps l.steps;
}
