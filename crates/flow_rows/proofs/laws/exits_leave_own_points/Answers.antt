use Rattle.flow_rows.proofs.Leaving.{edge_own}
use Rattle.flow_rows.proofs.laws.exits_leave_own_points.Goals as goal

pub returns : goal.returns
returns c = edge_own
