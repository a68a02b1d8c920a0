use Rattle.std.proofs.Common.{◌≡◌, ◌++◌, take}
use Rattle.type_terms.proofs.union.push_copies.Given as goal

abbrev pub invariant-loop-atom : goal.invariant-loop-atom
invariant-loop-atom l = l.members ≡ l.initial.members ++ take l.atom-index l.atoms
