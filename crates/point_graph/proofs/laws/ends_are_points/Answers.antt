use Rattle.point_graph.proofs.Leading.{end_there}
use Rattle.point_graph.proofs.laws.ends_are_points.Goals as goal

pub returns : goal.returns
returns c = end_there
