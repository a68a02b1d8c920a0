use Rattle.std.proofs.Common.{length}
use Rattle.py_scopes.proofs.scope.+from_module.Given as goal

abbrev pub decreases-from_module : goal.decreases-from_module
decreases-from_module l = length l.scopes.now
