use Rattle.std.proofs.Common.{◌-◌}
use Rattle.flow_forms.specs.Patterns.{captures, captured}
use Rattle.flow_forms.proofs.Depth.{captures_below, level_done}
use Rattle.flow_forms.proofs.patterns.+add_captures.Goals as goal

pub returns : goal.returns
returns t c = level_done (captures (c.args.left - 1) c.args.tree.now) c.inner_patterns-part-items.result.now c.loop-part.part-index
    c.args.list.now c.add_captured.new.list c.loop-part.list (captured c.args.tree.now c.args.node c.kind-kind.result) (captures c.args.left c.args.tree.now c.args.node)
    c.loop-part-test.false c.loop-part.invariant c.in_ok-add_captured.ensures
    (rw (c.inner_patterns-part-items.ensures, c.kind-kind.ensures, c.parts.ensures) (captures_below c.args.left c.args.tree.now c.args.node c.if-left-eq0.false))
