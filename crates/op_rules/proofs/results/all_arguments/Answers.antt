use Rattle.std.proofs.Common.{rules, ◌≡◌, ◌∙◌, ◌+◌, [], suc, refl, sym, ap, subst, arith, length}
use Rattle.std.proofs.lemmas.Option.{slice_get_read}
use Rattle.value_terms.specs.Asks.{or_unknown}
use Rattle.value_terms.specs.Outcome.{gives}
use Rattle.op_rules.specs.Results.{first_arguments}
use Rattle.op_rules.specs.Steps.{IsCall}
use Rattle.op_rules.proofs.CallLemmas.{call_never, is_call_join}
use Rattle.op_rules.proofs.results.all_arguments.Goals as goal

pub loop-ty-init : goal.loop-ty-init
loop-ty-init c = λ w.
    let none : c.new-parts.result ≡ [] = search rules in
    call_never w c.args.args.now c.new-parts.result none

pub loop-ty-preserved : goal.loop-ty-preserved
loop-ty-preserved c = λ w.
    let now = c.loop-ty in
    let args = c.args.args.now in
    let one = c.in_ok-copy.ensures ∙ sym (ap or_unknown (slice_get_read args (length args) now.ty-index c.ty-item.result refl c.loop-ty-test.true c.ty-item.is)) in
    let next : now.ty-index + 1 ≡ suc now.ty-index = omega arith in
    subst (λ n. IsCall w args c.push.new.self (gives (first_arguments n))) (sym next)
    (subst (λ ps. IsCall w args ps (gives (first_arguments (suc now.ty-index)))) (sym c.in_ok-push.ensures.ok)
    (is_call_join w args now.parts (first_arguments now.ty-index) now.ty-index c.in_ok-copy.copy one (now.invariant w)))
