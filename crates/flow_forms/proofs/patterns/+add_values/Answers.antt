use Rattle.std.proofs.Common.{◌-◌}
use Rattle.flow_forms.specs.Patterns.{values, evaluated}
use Rattle.flow_forms.proofs.Depth.{values_below, level_done}
use Rattle.flow_forms.proofs.patterns.+add_values.Goals as goal

pub returns : goal.returns
returns t c = level_done (values (c.args.left - 1) c.args.tree.now) c.inner_expressions-part-items.result.now c.loop-part.part-index
    c.args.list.now c.add_evaluated.new.list c.loop-part.list (evaluated c.args.node c.kind-kind.result c.parts-parts.result.now) (values c.args.left c.args.tree.now c.args.node)
    c.loop-part-test.false c.loop-part.invariant c.in_ok-add_evaluated.ensures
    (rw (c.inner_expressions-part-items.ensures, c.kind-kind.ensures, c.parts-parts.ensures) (values_below c.args.left c.args.tree.now c.args.node c.if-left-eq0.false))
