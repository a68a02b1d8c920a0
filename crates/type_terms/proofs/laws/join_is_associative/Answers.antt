use Rattle.type_terms.proofs.TypeLaws.{union-assoc}
use Rattle.type_terms.proofs.laws.join_is_associative.Goals as goal

pub returns : goal.returns
returns c = union-assoc
