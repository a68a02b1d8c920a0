use Rattle.assign_rules.proofs.Consequences.{reflexive_law}
use Rattle.assign_rules.proofs.laws.reflexive.Goals as goal

pub returns : goal.returns
returns g c = reflexive_law _ _
