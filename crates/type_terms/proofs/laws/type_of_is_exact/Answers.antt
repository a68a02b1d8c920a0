use Rattle.type_terms.proofs.TypeLaws.{type_of-IsType, has-type_of, type_of_type}
use Rattle.type_terms.proofs.laws.type_of_is_exact.Goals as goal

pub returns : goal.returns
returns c = record { rises = type_of-IsType; members = has-type_of; same = type_of_type }
