use Rattle.type_terms.proofs.TypeLaws.{union-none}
use Rattle.type_terms.proofs.laws.never_is_neutral.Goals as goal

pub returns : goal.returns
returns c = union-none
