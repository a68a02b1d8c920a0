use Rattle.std.proofs.Common.{sym, ap, ◌∙◌}
use Rattle.class_rows.specs.Rows.{is_sub_of}
use Rattle.narrow_rules.specs.Ground.{is_below}
use Rattle.narrow_rules.proofs.ListLemmas.{any_next}
use Rattle.narrow_rules.proofs.truth.is_falsy.Goals as goal

pub loop-builtin-preserved : goal.loop-builtin-preserved
loop-builtin-preserved c =
    let is = c.is_sub.ensures.value ∙ ap (is_sub_of c.args.classes.now c.args.class) c.id.ensures in
    any_next (is_below c.args.classes.now c.args.class) _ c.loop-builtin.builtin-index _ _ c.loop-builtin-test.true (sym is ∙ c.if-is_sub.false) c.loop-builtin.invariant
