use Rattle.std.proofs.Common.{ap, ◌++◌, ◌∙◌, get_or, List}
use Rattle.flow_rows.specs.Around.{targets}
use Rattle.flow_rows.specs.Edges.{left}
use Rattle.flow_rows.specs.declared.route.Kid.{Kid}
use Rattle.flow_rows.specs.declared.point.Point.{Point}
use Rattle.flow_rows.specs.declared.route.Channel.{Channel}
use Rattle.flow_rows.proofs.Flowing.{no_kid, part_taken, part_there, part_not, form_done}
use Rattle.flow_rows.proofs.emit.+emit.Goals as goal
use Rattle.flow_rows.proofs.emit.+emit.Goals.{then-kid-node+in_ok-emit, else-kid-node}

pub returns : goal.returns
returns t c = form_done c.args.forms.now c.args.ends.now c.args.node c.args.copy c.args.mode (targets c.args.frame.now)
    c.in_ok-row.row c.as_slice-kid-items.result.now c.loop-kid.kid-index c.args.edges.now c.add_all.new.edges c.leave_all.new.edges c.loop-kid.edges
    c.in_ok-row.ensures
    (c.in_ok-add_all.ensures ∙ ap (λ x. c.args.edges.now ++ x) c.as_slice.ensures)
    (c.in_ok-leave_all.ensures ∙ ap (λ x. c.add_all.new.edges ++ left (targets c.args.frame.now) x) c.as_slice-2.ensures)
    c.as_slice-kid-items.ensures
    c.loop-kid-test.false c.loop-kid.invariant

pub loop-kid-preserved : goal.loop-kid-preserved
loop-kid-preserved t c =
    let kids : List Kid = c.as_slice-kid-items.result.now in
    let kid : Kid = get_or kids c.loop-kid.kid-index no_kid in
    let reach : Channel → List Point = targets c.args.frame.now in
    part_taken c.args.forms.now c.args.ends.now c.args.node reach kids c.loop-kid.kid-index c.leave_all.new.edges c.loop-kid.edges c.if-kid-node.edges
    c.loop-kid-test.true c.loop-kid.invariant
    (elim c.if-kid-node.branch [
      | then-kid-node+in_ok-emit w ↦ w.edges-is ∙ part_there c.args.forms.now c.args.ends.now c.args.node reach kid c.loop-kid.edges _ w.if-kid-node.true w.in_ok-emit.ensures
      | else-kid-node w ↦ w.edges-is ∙ part_not c.args.forms.now c.args.ends.now c.args.node reach kid c.loop-kid.edges w.if-kid-node.false
    ])
