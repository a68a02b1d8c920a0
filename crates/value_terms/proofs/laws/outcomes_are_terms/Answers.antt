use Rattle.value_terms.proofs.OutcomeLemmas.{type_term_gives, type_term_names}
use Rattle.value_terms.proofs.laws.outcomes_are_terms.Goals as goal

pub returns-clause-gives : goal.returns-clause-gives
returns-clause-gives g c = type_term_gives

pub returns-clause-names : goal.returns-clause-names
returns-clause-names g c = type_term_names
