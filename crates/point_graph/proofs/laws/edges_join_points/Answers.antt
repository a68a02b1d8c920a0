use Rattle.point_graph.proofs.Listing.{ends_there}
use Rattle.point_graph.proofs.laws.edges_join_points.Goals as goal

pub returns : goal.returns
returns c = ends_there
