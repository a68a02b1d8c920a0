use Rattle.std.proofs.Common.{sym, ◌∙◌, arith}
use Rattle.node_shapes.proofs.SeenSteps.{seen_step}
use Rattle.node_shapes.proofs.expressions.seen.Goals as goal

pub loop-inner-preserved : goal.loop-inner-preserved
loop-inner-preserved c =
    sym (seen_step c.args.tree.now.nodes c.loop-inner.here c.in-Group.inner c.loop-inner.left (sym c.in-Group.ensures) (omega (arith, c.if-left-eq0.false))) ∙ c.loop-inner.invariant
