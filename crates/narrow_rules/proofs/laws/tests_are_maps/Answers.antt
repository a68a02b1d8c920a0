use Rattle.std.specs.List.{flat_map}
use Rattle.narrow_rules.specs.Keep.{keep}
use Rattle.narrow_rules.proofs.MemberLemmas.{same_members, flat_rises}
use Rattle.narrow_rules.proofs.laws.tests_are_maps.Goals as goal

pub returns-clause-sorted : goal.returns-clause-sorted
returns-clause-sorted c = λ classes names t positive type. c.type_of_is_exact.ensures.rises (flat_map (keep classes names t positive) type)

pub returns-clause-members : goal.returns-clause-members
returns-clause-members c = λ classes names t positive type. same_members c.equal_types_are_equal_lists.ensures.members c.type_of_is_exact.ensures.members (flat_map (keep classes names t positive) type)

pub returns-clause-rises : goal.returns-clause-rises
returns-clause-rises c = λ classes names t positive one other inside b at.
    let types = same_members c.equal_types_are_equal_lists.ensures.members c.type_of_is_exact.ensures.members in
    let f = keep classes names t positive in
    (types (flat_map f other)).1 b (flat_rises f one other inside b ((types (flat_map f one)).0 b at))
