use Rattle.flow_graph.proofs.Belonging.{root_symbol}
use Rattle.flow_graph.proofs.laws.roots_are_symbols.Goals as goal

pub returns : goal.returns
returns c = root_symbol c.roots_are_owned.ensures
