use Rattle.narrow_rules.proofs.LevelLemmas.{swapped, swapped_twice}
use Rattle.narrow_rules.proofs.laws.swapping_twice_is_nothing.Goals as goal

pub returns-clause-other : goal.returns-clause-other
returns-clause-other c = swapped

pub returns-clause-twice : goal.returns-clause-twice
returns-clause-twice c = swapped_twice
