use Rattle.std.proofs.Common.{◌≡◌, suc}
use Rattle.node_shapes.specs.Expressions.{seen, seen_within}
use Rattle.node_shapes.proofs.expressions.seen.Given as goal

abbrev pub invariant-loop-inner : goal.invariant-loop-inner
invariant-loop-inner l = seen_within (suc l.left) l.fn.tree.nodes l.here ≡ seen l.fn.tree.nodes l.fn.node

abbrev pub decreases-loop-inner : goal.decreases-loop-inner
decreases-loop-inner l = l.left
