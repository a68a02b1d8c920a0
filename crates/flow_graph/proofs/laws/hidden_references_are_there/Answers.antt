use Rattle.flow_graph.proofs.Belonging.{hidden_there}
use Rattle.flow_graph.proofs.laws.hidden_references_are_there.Goals as goal

pub returns : goal.returns
returns c = hidden_there
