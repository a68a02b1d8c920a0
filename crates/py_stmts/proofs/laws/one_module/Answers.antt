use Rattle.py_stmts.proofs.Faultless.{one-module}
use Rattle.py_stmts.proofs.laws.one_module.Goals as goal

pub returns : goal.returns
returns c = one-module c.one_line_tree.ensures c.one_nesting.ensures c.one_module_tree.ensures
