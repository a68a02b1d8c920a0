use Rattle.type_terms.proofs.TypeLaws.{IsType-none}
use Rattle.type_terms.proofs.types.Type.empty.Goals as goal

pub invariant_of-result : goal.invariant_of-result
invariant_of-result c = rw c.new.ensures IsType-none
