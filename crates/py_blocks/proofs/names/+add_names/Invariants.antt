use Rattle.std.proofs.Common.{◌≡◌, ◌++◌, drop}
use Rattle.py_base.specs.Tree.{parts_at, trees, tree_of}
use Rattle.py_blocks.specs.Roles.{names_in, names_of_parts}
use Rattle.py_blocks.proofs.names.+add_names.Given as goal

abbrev pub decreases-add_names : goal.decreases-add_names
decreases-add_names l = l.id.0

abbrev pub invariant-loop-at : goal.invariant-loop-at
invariant-loop-at l = l.names ++ names_of_parts l.role l.node.kind l.at (parts_at (trees l.tree) (drop l.at l.parts)) ≡ l.fn.names ++ names_in l.role (tree_of l.tree l.fn.id)
