use Rattle.point_graph.specs.Building.{IsDraft}
use Rattle.point_graph.proofs.members.all_graphs.Given as goal

abbrev pub invariant-loop-at : goal.invariant-loop-at
invariant-loop-at l = IsDraft l.forms l.ends l.at l.numbering.points.keys l.numbering.homes l.steps l.graphs
