use Rattle.std.proofs.Common.{length}
use Rattle.py_scopes.proofs.occurrence.+decorated.Given as goal

abbrev pub decreases-decorated : goal.decreases-decorated
decreases-decorated l = length l.way.now
