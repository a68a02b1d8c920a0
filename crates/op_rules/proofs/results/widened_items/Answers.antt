use Rattle.std.proofs.Common.{rules, ◌≡◌, ◌∷◌, [], refl, length}
use Rattle.type_terms.specs.Widen.{widened}
use Rattle.value_terms.specs.Term.{fixed}
use Rattle.op_rules.specs.Iterations.{iteration}
use Rattle.op_rules.specs.Results.{iterated_argument}
use Rattle.op_rules.specs.declared.step.Step.TheVariants as step
use Rattle.op_rules.proofs.CallLemmas.{goes_on_as, goes_on_value}
use Rattle.op_rules.proofs.results.widened_items.Goals as goal

pub returns : goal.returns
returns g c =
    let w = g.P.Program.world c.args.ruled.now.program.now in
    let args = c.args.ruled.now.args.now in
    let list : c.as_slice.result.now ≡ c.in_ok-parts.parts = search rules in
    goes_on_value w args c.in_ok-parts.parts c.in_ok-all.all step.Widened (iterated_argument (iteration w) (length args) 0) (λ a. fixed (widened w.names a)) (λ a. refl) c.in_ok-parts.ensures
    (goes_on_as w args c.as_slice.result.now c.in_ok-parts.parts c.in_ok-all.all (step.Widened ∷ []) (step.Widened ∷ []) list refl c.in_ok-all.ensures)
