use Rattle.point_graph.proofs.Leading.{lead_together}
use Rattle.point_graph.proofs.laws.edges_stay_in_a_graph.Goals as goal

pub returns : goal.returns
returns c = lead_together
