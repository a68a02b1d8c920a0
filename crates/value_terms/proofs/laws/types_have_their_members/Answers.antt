use Rattle.std.proofs.Common.{sym}
use Rattle.type_terms.specs.Types.{type_of}
use Rattle.value_terms.proofs.ToldLemmas.{inside_by_has}
use Rattle.value_terms.proofs.laws.types_have_their_members.Goals as goal

pub returns-clause-more : goal.returns-clause-more
returns-clause-more c = λ xs. inside_by_has c.equal_types_are_equal_lists.ensures.members xs (type_of xs) (λ a. sym (c.type_of_is_exact.ensures.members xs a))

pub returns-clause-fewer : goal.returns-clause-fewer
returns-clause-fewer c = λ xs. inside_by_has c.equal_types_are_equal_lists.ensures.members (type_of xs) xs (c.type_of_is_exact.ensures.members xs)
