use Rattle.type_terms.proofs.TypeLaws.{lists_decide, has_decides}
use Rattle.type_terms.proofs.laws.equal_types_are_equal_lists.Goals as goal

pub returns : goal.returns
returns c = record { lists = lists_decide; members = has_decides }
