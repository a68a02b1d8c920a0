use Rattle.type_terms.proofs.TypeLaws.{within_first, within_second, union_least}
use Rattle.type_terms.proofs.laws.join_is_least.Goals as goal

pub returns : goal.returns
returns c = record { first = within_first; second = within_second; least = union_least }
