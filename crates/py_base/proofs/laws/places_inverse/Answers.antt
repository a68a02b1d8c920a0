use Rattle.py_base.proofs.PlaceLaws.{offset_of-place_of}
use Rattle.py_base.proofs.laws.places_inverse.Goals as goal

pub returns : goal.returns
returns c = offset_of-place_of
