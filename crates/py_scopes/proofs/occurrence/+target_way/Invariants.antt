use Rattle.std.proofs.Common.{length}
use Rattle.py_scopes.proofs.occurrence.+target_way.Given as goal

abbrev pub decreases-target_way : goal.decreases-target_way
decreases-target_way l = length l.way.now
