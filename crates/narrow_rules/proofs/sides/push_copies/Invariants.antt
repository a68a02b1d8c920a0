use Rattle.std.proofs.Common.{◌≡◌, ◌++◌, take}
use Rattle.narrow_rules.proofs.sides.push_copies.Given as goal

abbrev pub invariant-loop-other : goal.invariant-loop-other
invariant-loop-other l = l.atoms.items ≡ l.initial.atoms.items ++ take l.other-index l.others
