use Rattle.std.proofs.Common.{rules, ◌≡◌, ◌∷◌, [], refl}
use Rattle.value_terms.specs.Outcome.{gives}
use Rattle.op_rules.specs.declared.step.Step.TheVariants as step
use Rattle.op_rules.proofs.CallLemmas.{goes_on_as, goes_on_iterator}
use Rattle.op_rules.proofs.RuleLemmas.{any_arguments}
use Rattle.op_rules.proofs.iterations.iterated.Goals as goal

pub returns : goal.returns
returns g c = λ x h.
    let w = g.P.Program.world c.args.ruled.now.program.now in
    let args = c.args.ruled.now.args.now in
    let list : c.as_slice.result.now ≡ c.args.parts = search rules in
    goes_on_iterator w args c.args.parts c.in_ok-all.all x c.args.told (any_arguments w args c.args.parts (gives x) h)
    (goes_on_as w args c.as_slice.result.now c.args.parts c.in_ok-all.all (step.Iterator c.args.told ∷ []) (step.Iterator c.args.told ∷ []) list refl c.in_ok-all.ensures)
