use Rattle.py_blocks.proofs.Seeing.{faultless-nesting}
use Rattle.py_blocks.proofs.laws.faultless_nesting.Goals as goal

pub returns : goal.returns
returns c = faultless-nesting
