use Rattle.py_scopes.proofs.Sets.{has-symbols}
use Rattle.py_scopes.proofs.search.Search.new.Goals as goal

pub invariant_of-result : goal.invariant_of-result
invariant_of-result c = has-symbols c.in_ok-said.said c.in_ok-symbols.symbols.keys c.in_ok-symbols.ensures
