use Rattle.py_blocks.proofs.Faultless.{one-nesting}
use Rattle.py_blocks.proofs.laws.one_nesting.Goals as goal

pub returns : goal.returns
returns c = one-nesting
