use Rattle.type_terms.proofs.TypeLaws.{union-comm}
use Rattle.type_terms.proofs.laws.join_is_commutative.Goals as goal

pub returns : goal.returns
returns c = union-comm
