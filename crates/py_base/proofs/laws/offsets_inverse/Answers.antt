use Rattle.py_base.proofs.PlaceLaws.{place_of-offset_of, offset_of_some}
use Rattle.py_base.proofs.laws.offsets_inverse.Goals as goal

pub returns : goal.returns
returns c = record { place = place_of-offset_of; within = λ lengths place offset e. (offset_of_some lengths place offset e).within }
