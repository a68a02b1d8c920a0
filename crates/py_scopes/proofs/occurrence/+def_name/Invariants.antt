use Rattle.std.proofs.Common.{length}
use Rattle.py_scopes.proofs.occurrence.+def_name.Given as goal

abbrev pub decreases-def_name : goal.decreases-def_name
decreases-def_name l = length l.way.now
