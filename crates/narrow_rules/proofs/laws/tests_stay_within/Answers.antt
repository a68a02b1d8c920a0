use Rattle.narrow_rules.proofs.MemberLemmas.{same_members}
use Rattle.narrow_rules.proofs.WithinLemmas.{narrowed_within}
use Rattle.narrow_rules.proofs.laws.tests_stay_within.Goals as goal

pub returns : goal.returns
returns c = λ classes names t positive universe type sets made inside.
    narrowed_within universe (same_members c.equal_types_are_equal_lists.ensures.members c.type_of_is_exact.ensures.members) classes names sets t made positive type inside
