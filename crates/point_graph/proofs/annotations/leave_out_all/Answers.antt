use Rattle.std.proofs.Common.{◌<◌, ap, ◌∙◌, arith, length, get_or, slice_set}
use Rattle.std.proofs.lemmas.List.{get_or_default}
use Rattle.std.proofs.lemmas.List.Edits.{map_over_more}
use Rattle.point_graph.specs.Annotations.{without_annotation}
use Rattle.point_graph.proofs.annotations.leave_out_all.Goals as goal

pub loop-form-preserved : goal.loop-form-preserved
loop-form-preserved c =
    let forms = c.args.forms.now in
    let now = c.loop-form.forms in
    let i = c.loop-form.form-index in
    let item = c.form-item.result in
    let within : i < length now = omega arith in
    let same = get_or_default now i item (get_or now i item) within in
    ap (λ form. slice_set now i form) c.in_ok-leave_out.ensures
    ∙ map_over_more (without_annotation c.args.tree.now.nodes c.args.casts.now) forms now i (get_or now i item) (omega arith) c.loop-form.invariant same
