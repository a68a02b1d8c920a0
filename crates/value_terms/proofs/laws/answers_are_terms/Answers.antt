use Rattle.std.specs.List.{Contains}
use Rattle.value_terms.proofs.AnsweringLemmas.{gives_by_answers, names_by_answers, well_by_answers}
use Rattle.value_terms.proofs.laws.answers_are_terms.Goals as goal

pub returns-clause-gives : goal.returns-clause-gives
returns-clause-gives g c = gives_by_answers

pub returns-clause-names : goal.returns-clause-names
returns-clause-names g c = names_by_answers

pub returns-clause-within : goal.returns-clause-within
returns-clause-within g c = λ keys named universe. well_by_answers (Contains keys) (Contains named) (Contains universe)
