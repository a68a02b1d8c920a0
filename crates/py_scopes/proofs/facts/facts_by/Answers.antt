use Rattle.py_scopes.proofs.Whole.{facts-made}
use Rattle.py_scopes.proofs.facts.facts_by.Goals as goal

pub returns : goal.returns
returns c = facts-made c.args.tree.now c.args.numbers.now.keys _ c.in_ok-graph_of.ensures c.behind_by.ensures
