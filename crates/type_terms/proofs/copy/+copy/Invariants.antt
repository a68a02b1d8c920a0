use Rattle.std.proofs.Common.{◌≡◌, ◌+◌, ◌*◌, take}
use Rattle.type_terms.proofs.copy.+copy.Given as goal

abbrev pub invariant-copy_members-loop-atom : goal.invariant-copy_members-loop-atom
invariant-copy_members-loop-atom l = (l.atom-items ≡ l.members) × (l.copy ≡ take l.atom-index l.members)

abbrev pub invariant-copy_types-loop-members : goal.invariant-copy_types-loop-members
invariant-copy_types-loop-members l = (l.members-items ≡ l.types) × (l.copy ≡ take l.members-index l.types)

-- three steps for each level: an atom, the members of a type, the types of the slots
abbrev pub decreases-copy_atom : goal.decreases-copy_atom
decreases-copy_atom l = 3 * goal.size-copy_atom l

abbrev pub decreases-copy_members : goal.decreases-copy_members
decreases-copy_members l = 3 * goal.size-copy_members l + 1

abbrev pub decreases-copy_types : goal.decreases-copy_types
decreases-copy_types l = 3 * goal.size-copy_types l + 2
