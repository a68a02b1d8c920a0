use Rattle.py_blocks.proofs.Reading.{tree_of-node, named-at}
use Rattle.py_blocks.proofs.walk.node_of.Goals as goal

pub returns-clause-tree : goal.returns-clause-tree
returns-clause-tree c = tree_of-node c.args.tree.now c.args.id c.node.result.now c.requires.linked c.node.ensures.value

pub returns-clause-named : goal.returns-clause-named
returns-clause-named c = named-at c.args.tree.now c.args.id c.node.result.now c.requires.linked c.node.ensures.value
