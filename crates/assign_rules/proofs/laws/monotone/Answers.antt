use Rattle.assign_rules.proofs.Consequences.{monotone_law}
use Rattle.assign_rules.proofs.laws.monotone.Goals as goal

pub returns : goal.returns
returns g c = monotone_law _ _
