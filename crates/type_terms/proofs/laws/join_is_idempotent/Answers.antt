use Rattle.type_terms.proofs.TypeLaws.{union-self}
use Rattle.type_terms.proofs.laws.join_is_idempotent.Goals as goal

pub returns : goal.returns
returns c = union-self
