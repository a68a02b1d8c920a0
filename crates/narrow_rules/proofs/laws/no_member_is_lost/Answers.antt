use Rattle.narrow_rules.proofs.MemberLemmas.{same_members}
use Rattle.narrow_rules.proofs.StayLemmas.{stays}
use Rattle.narrow_rules.proofs.laws.no_member_is_lost.Goals as goal

pub returns : goal.returns
returns c = λ classes names t a none. stays (same_members c.equal_types_are_equal_lists.ensures.members c.type_of_is_exact.ensures.members) classes names t a none
