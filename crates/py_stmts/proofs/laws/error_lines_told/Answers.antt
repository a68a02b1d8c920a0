use Rattle.py_stmts.proofs.Faultless.{error-lines-told}
use Rattle.py_stmts.proofs.laws.error_lines_told.Goals as goal

pub returns : goal.returns
returns c = error-lines-told
