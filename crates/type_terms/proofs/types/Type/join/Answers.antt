use Rattle.type_terms.proofs.TypeLaws.{union-IsType}
use Rattle.type_terms.proofs.types.Type.join.Goals as goal

pub invariant_of-result : goal.invariant_of-result
invariant_of-result c = rw c.in_ok-members.ensures (union-IsType c.members.result.now c.members-2.result.now)
