use Rattle.py_blocks.proofs.Lawful.{each-settles}
use Rattle.py_blocks.proofs.laws.each_settles.Goals as goal

pub returns : goal.returns
returns c = each-settles
