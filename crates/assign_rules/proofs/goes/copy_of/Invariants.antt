use Rattle.std.proofs.Common.{◌≡◌, take}
use Rattle.assign_rules.proofs.goes.copy_of.Given as goal

abbrev pub invariant-loop-atom : goal.invariant-loop-atom
invariant-loop-atom l = (l.atom-items ≡ l.members) × (l.copy ≡ take l.atom-index l.members)
