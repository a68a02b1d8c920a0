use Rattle.py_stmts.proofs.Faultless.{faultless-module}
use Rattle.py_stmts.proofs.laws.faultless_module.Goals as goal

pub returns : goal.returns
returns c = faultless-module c.one_line_tree.ensures c.nesting_within.ensures c.faultless_nesting.ensures c.faultless_exactly.ensures c.faultless_read.ensures
