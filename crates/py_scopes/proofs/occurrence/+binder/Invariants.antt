use Rattle.std.proofs.Common.{length}
use Rattle.py_scopes.proofs.occurrence.+binder.Given as goal

abbrev pub decreases-binder : goal.decreases-binder
decreases-binder l = length l.way.now
