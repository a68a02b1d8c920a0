use Rattle.std.proofs.Common.{length}
use Rattle.py_scopes.proofs.around.+scopes_along.Given as goal

abbrev pub decreases-scopes_along : goal.decreases-scopes_along
decreases-scopes_along l = length l.way.now
