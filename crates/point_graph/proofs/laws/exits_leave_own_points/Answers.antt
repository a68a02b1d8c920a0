use Rattle.point_graph.proofs.Leading.{lead_own}
use Rattle.point_graph.proofs.laws.exits_leave_own_points.Goals as goal

pub returns : goal.returns
returns c = lead_own c.exits_leave_own_points.ensures
