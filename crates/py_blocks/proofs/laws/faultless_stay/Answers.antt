use Rattle.py_blocks.proofs.Lawful.{faultless-stay}
use Rattle.py_blocks.proofs.laws.faultless_stay.Goals as goal

pub returns : goal.returns
returns c = faultless-stay
