use Rattle.assign_rules.proofs.Consequences.{each_alone_law}
use Rattle.assign_rules.proofs.laws.each_alone.Goals as goal

pub returns : goal.returns
returns g c = each_alone_law _ _
