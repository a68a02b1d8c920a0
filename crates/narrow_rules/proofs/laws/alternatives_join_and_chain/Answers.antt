use Rattle.narrow_rules.proofs.MemberLemmas.{same_members}
use Rattle.narrow_rules.proofs.LevelLemmas.{joins, chains, nothing_tested}
use Rattle.narrow_rules.proofs.laws.alternatives_join_and_chain.Goals as goal

pub returns-clause-joins : goal.returns-clause-joins
returns-clause-joins c = λ classes names. joins classes names (same_members c.equal_types_are_equal_lists.ensures.members c.type_of_is_exact.ensures.members)

pub returns-clause-chains : goal.returns-clause-chains
returns-clause-chains c = λ classes names. chains classes names (same_members c.equal_types_are_equal_lists.ensures.members c.type_of_is_exact.ensures.members)

pub returns-clause-nothing : goal.returns-clause-nothing
returns-clause-nothing c = nothing_tested
