use Rattle.type_terms.proofs.TypeLaws.{union-IsType, has-union}
use Rattle.type_terms.proofs.laws.join_is_exact.Goals as goal

pub returns : goal.returns
returns c = record { rises = union-IsType; members = has-union }
