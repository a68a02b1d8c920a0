use Rattle.py_blocks.proofs.Faultless.{faultless-exactly}
use Rattle.py_blocks.proofs.laws.faultless_exactly.Goals as goal

pub returns : goal.returns
returns c = faultless-exactly
