-- One pair of brackets less.
use Rattle.std.proofs.Common.{◌≡◌, ℕ, suc, ◌-◌, ◌<◌, List, sym, ap, arith}
use Rattle.py_base.specs.declared.ids.NodeId.{NodeId}
use Rattle.py_base.specs.declared.node.Node.{Node}
use Rattle.node_shapes.specs.declared.expressions.Expression.TheVariants as form
use Rattle.node_shapes.specs.Expressions.{expression, seen_within}

pub seen_step : (nodes : List Node) (here inner : NodeId) (left : ℕ) → expression nodes here ≡ form.Group inner → 0 < left → seen_within (suc left) nodes here ≡ seen_within (suc (left - 1)) nodes inner
seen_step nodes here inner left e lt = let d : suc (left - 1) ≡ left = omega arith in rw e (ap (λ k. seen_within k nodes inner) (sym d))
