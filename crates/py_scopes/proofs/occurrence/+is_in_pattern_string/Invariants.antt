use Rattle.std.proofs.Common.{length}
use Rattle.py_scopes.proofs.occurrence.+is_in_pattern_string.Given as goal

abbrev pub decreases-is_in_pattern_string : goal.decreases-is_in_pattern_string
decreases-is_in_pattern_string l = length l.way.now
