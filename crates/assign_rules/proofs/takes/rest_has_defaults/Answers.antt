use Rattle.std.proofs.Common.{◌≡◌, ◌-◌, sym, ◌∙◌, rules}
use Rattle.assign_rules.specs.Takes.{is_by_place}
use Rattle.assign_rules.proofs.Plain.{next_default}
use Rattle.assign_rules.proofs.takes.rest_has_defaults.Goals as goal

pub loop-param-preserved : goal.loop-param-preserved
loop-param-preserved c =
    let left : c.saturating_sub-left.result ≡ c.loop-param.left - 1 = search rules in
    next_default (λ p. is_by_place p.kind) (λ p. p.default) c.args.params.now c.loop-param.param-index c.param-item.result c.loop-param.left c.saturating_sub-left.result _ c.loop-param-test.true c.param-item.is
    (sym c.is_by_place.ensures ∙ c.if-not-is_by_place.false) left (sym c.is_unfilled.ensures ∙ c.if-is_unfilled.false) c.loop-param.invariant
