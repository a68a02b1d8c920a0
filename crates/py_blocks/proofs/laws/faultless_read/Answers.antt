use Rattle.py_blocks.proofs.Faultless.{faultless-read}
use Rattle.py_blocks.proofs.laws.faultless_read.Goals as goal

pub returns : goal.returns
returns c = faultless-read
