use Rattle.point_graph.proofs.Listing.{lists_exact}
use Rattle.point_graph.proofs.laws.lists_are_exact.Goals as goal

pub returns : goal.returns
returns c = lists_exact
