use Rattle.node_references.proofs.Owning.{owned}
use Rattle.node_references.proofs.laws.roots_are_owned.Goals as goal

pub returns : goal.returns
returns c = owned
