use Rattle.std.proofs.Common.{length}
use Rattle.py_scopes.proofs.scope.+from_graph.Given as goal

abbrev pub decreases-from_graph : goal.decreases-from_graph
decreases-from_graph l = length l.scopes.now
