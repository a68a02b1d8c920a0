use Rattle.py_base.specs.TreeLaws.{Grows-refl}
use Rattle.py_stmts.proofs.ReadLines.{IsLineOf-found}
use Rattle.py_stmts.proofs.texts.root_of.Goals as goal

pub returns-then-is_some-clause-older : goal.returns-then-is_some-clause-older
returns-then-is_some-clause-older c = Grows-refl c.args.tree.now

pub returns-clause-tree : goal.returns-clause-tree
returns-clause-tree c = IsLineOf-found c.args.line.now c.line_tree.new.tree c.in_ok-root.root (rw c.is_some.ensures at c.if-is_some.false) c.in_ok-root.ensures.found c.in_ok-root.ensures.only
