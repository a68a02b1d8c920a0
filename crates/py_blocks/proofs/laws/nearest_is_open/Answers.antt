use Rattle.py_blocks.proofs.Lawful.{nearest-is-open}
use Rattle.py_blocks.proofs.laws.nearest_is_open.Goals as goal

pub returns : goal.returns
returns c = nearest-is-open
