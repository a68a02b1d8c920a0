use Rattle.std.proofs.Common.{length}
use Rattle.py_scopes.proofs.occurrence.+does_only_spell.Given as goal

abbrev pub decreases-does_only_spell : goal.decreases-does_only_spell
decreases-does_only_spell l = length l.way.now
