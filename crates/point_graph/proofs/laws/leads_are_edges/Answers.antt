use Rattle.point_graph.proofs.Leading.{lead_edge}
use Rattle.point_graph.proofs.laws.leads_are_edges.Goals as goal

pub returns : goal.returns
returns c = lead_edge
