use Rattle.py_stmts.proofs.LineLemmas.{one_line}
use Rattle.py_stmts.proofs.lines.one_line_tree.Goals as goal

pub returns : goal.returns
returns c = one_line c.one_tree.ensures
