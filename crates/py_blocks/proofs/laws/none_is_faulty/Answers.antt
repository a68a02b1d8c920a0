use Rattle.py_blocks.proofs.Lawful.{none-is-faulty}
use Rattle.py_blocks.proofs.laws.none_is_faulty.Goals as goal

pub returns : goal.returns
returns c = none-is-faulty
