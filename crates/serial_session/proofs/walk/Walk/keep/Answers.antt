use Rattle.std.proofs.Common.{length, sym, ap, ◌∙◌, arith}
use Rattle.serial_session.specs.LineTypes.{type_at}
use Rattle.serial_session.proofs.walk.Walk.keep.Goals as goal

pub loop-above-preserved : goal.loop-above-preserved
loop-above-preserved c = (
  c.keep_one.ensures ∙ c.loop-above.invariant.0,
  omega (arith, ap length c.keep_one.ensures, c.in-Above.ensures.0),
  c.loop-above.invariant.2 ∙ sym c.in-Above.ensures.1 ∙ ap (λ forms. type_at forms c.in-Above.above) (sym c.keep_one.ensures),
)
