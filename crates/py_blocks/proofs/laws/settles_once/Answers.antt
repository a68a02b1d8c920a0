use Rattle.py_blocks.proofs.Lawful.{settles-once}
use Rattle.py_blocks.proofs.laws.settles_once.Goals as goal

pub returns : goal.returns
returns c = settles-once
