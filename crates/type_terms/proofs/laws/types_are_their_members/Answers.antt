use Rattle.type_terms.proofs.TypeLaws.{same_types}
use Rattle.type_terms.proofs.laws.types_are_their_members.Goals as goal

pub returns : goal.returns
returns c = same_types
