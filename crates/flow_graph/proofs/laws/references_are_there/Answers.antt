use Rattle.flow_graph.proofs.Belonging.{occurring_there}
use Rattle.flow_graph.proofs.laws.references_are_there.Goals as goal

pub returns : goal.returns
returns c = occurring_there
