use Rattle.py_stmts.proofs.Faultless.{faults-exactly}
use Rattle.py_stmts.proofs.laws.faults_exactly.Goals as goal

pub returns : goal.returns
returns c = faults-exactly c.one_line_tree.ensures c.nesting_within.ensures c.faultless_exactly.ensures
