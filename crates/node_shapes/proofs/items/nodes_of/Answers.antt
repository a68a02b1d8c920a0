use Rattle.std.proofs.Common.{Bool, length, sym, ap, subst, arith}
use Rattle.py_base.specs.declared.ids.NodeId.{NodeId}
use Rattle.py_base.specs.Nodes.{kind_at}
use Rattle.node_shapes.specs.Around.{is_sought}
use Rattle.node_shapes.specs.Tables.{IsRising}
use Rattle.node_shapes.proofs.Numbers.{kept-rise, kept-few}
use Rattle.node_shapes.proofs.items.nodes_of.Goals as goal

pub returns-clause-rising : goal.returns-clause-rising
returns-clause-rising c =
    let passes : NodeId → Bool = λ n. is_sought c.args.sought (kind_at c.args.tree.now.nodes n) in
    let is = c.loop-number.invariant in
    let many = ap length is in
    (subst IsRising (sym is) (kept-rise passes c.loop-number.number), omega (arith, many, kept-few passes c.loop-number.number, c.node_count-number-end.ensures.room))
