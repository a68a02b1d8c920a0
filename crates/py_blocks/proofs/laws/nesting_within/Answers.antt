use Rattle.py_blocks.proofs.Faultless.{nesting-within}
use Rattle.py_blocks.proofs.laws.nesting_within.Goals as goal

pub returns : goal.returns
returns c = nesting-within
