use Rattle.py_blocks.proofs.Lawful.{faults-in-order}
use Rattle.py_blocks.proofs.laws.faults_in_order.Goals as goal

pub returns : goal.returns
returns c = faults-in-order
