use Rattle.py_exprs.specs.Levels.{need_at}
use Rattle.py_exprs.proofs.levels.one_tree.Goals as goal

pub returns : goal.returns
returns c = λ tokens level t u g h. c.one_tree.ensures tokens (need_at level) t u g h
