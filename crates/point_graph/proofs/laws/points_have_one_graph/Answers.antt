use Rattle.point_graph.proofs.Leading.{alone_home, edge_homes, start_home}
use Rattle.point_graph.proofs.laws.points_have_one_graph.Goals as goal

pub returns : goal.returns
returns c = record { alone = alone_home; edges = edge_homes; starts = start_home }
