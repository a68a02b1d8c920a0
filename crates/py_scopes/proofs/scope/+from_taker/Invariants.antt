use Rattle.std.proofs.Common.{length}
use Rattle.py_scopes.proofs.scope.+from_taker.Given as goal

abbrev pub decreases-from_taker : goal.decreases-from_taker
decreases-from_taker l = length l.scopes.now
