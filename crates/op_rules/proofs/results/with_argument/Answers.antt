use Rattle.std.proofs.Common.{sym, subst}
use Rattle.value_terms.specs.Outcome.{gives}
use Rattle.value_terms.specs.Term.{join, read}
use Rattle.value_terms.specs.declared.ask.Ask.TheVariants as ask
use Rattle.op_rules.specs.Steps.{IsCall}
use Rattle.op_rules.proofs.CallLemmas.{is_call_join}
use Rattle.op_rules.proofs.RuleLemmas.{any_arguments}
use Rattle.op_rules.proofs.results.with_argument.Goals as goal

pub returns : goal.returns
returns g c = λ x h.
    let w = g.P.Program.world c.args.ruled.now.program.now in
    let args = c.args.ruled.now.args.now in
    subst (λ ps. IsCall w args ps (gives (join x (read (ask.Argument c.args.place))))) (sym c.in_ok-push.ensures.ok)
    (is_call_join w args c.args.parts x c.args.place c.in_ok-ty.ty c.in_ok-ty.ensures (any_arguments w args c.args.parts (gives x) h))
