use Rattle.std.proofs.Common.{◌++◌, length}
use Rattle.value_terms.specs.Told.{IsAlike}
use Rattle.value_terms.proofs.evaluation.add_members.Given as goal

abbrev pub decreases-loop-member : goal.decreases-loop-member
decreases-loop-member l = length l.members

abbrev pub invariant-loop-member : goal.invariant-loop-member
invariant-loop-member l = IsAlike (l.initial.atoms.items ++ l.initial.members) (l.atoms.items ++ l.members)
