use Rattle.std.proofs.Common.{refl}
use Rattle.py_base.specs.TreeLaws.{Grows-refl}
use Rattle.py_stmts.proofs.ReadLines.{same-grows, leaf-grows, leaf-tree, leaf-added}
use Rattle.py_stmts.proofs.texts.error_leaf.Goals as goal

pub returns-then-node_count-ge-TREE_ROOM-clause-older : goal.returns-then-node_count-ge-TREE_ROOM-clause-older
returns-then-node_count-ge-TREE_ROOM-clause-older c = Grows-refl c.args.tree.now

pub returns-in_err-id-clause-older : goal.returns-in_err-id-clause-older
returns-in_err-id-clause-older c = same-grows _ _ c.in_err-id.ensures.err

pub returns-clause-older : goal.returns-clause-older
returns-clause-older c = leaf-grows _ _ _ c.in_ok-id.ensures.ok

pub returns-clause-leaf : goal.returns-clause-leaf
returns-clause-leaf c = leaf-tree _ _ _ c.in_ok-id.id refl c.new.ensures c.in_ok-id.ensures.id c.in_ok-id.ensures.ok

pub returns-clause-once : goal.returns-clause-once
returns-clause-once c = leaf-added _ _ _ c.in_ok-id.id c.new.ensures c.in_ok-id.ensures.id c.in_ok-id.ensures.ok
