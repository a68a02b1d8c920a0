use Rattle.py_blocks.proofs.Lawful.{faultless-end}
use Rattle.py_blocks.proofs.laws.faultless_end.Goals as goal

pub returns : goal.returns
returns c = faultless-end
