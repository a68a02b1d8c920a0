use Rattle.std.proofs.Common.{rules, ◌≡◌, ◌∷◌, [], refl, length}
use Rattle.op_rules.specs.Results.{argument}
use Rattle.op_rules.proofs.CallLemmas.{goes_on_as, goes_on_value}
use Rattle.op_rules.proofs.results.of_argument.Goals as goal

pub returns : goal.returns
returns g c = λ f is.
    let w = g.P.Program.world c.args.ruled.now.program.now in
    let args = c.args.ruled.now.args.now in
    let list : c.as_slice.result.now ≡ c.in_ok-parts.parts = search rules in
    goes_on_value w args c.in_ok-parts.parts c.in_ok-all.all c.args.step (argument (length args) 0) f is c.in_ok-parts.ensures
    (goes_on_as w args c.as_slice.result.now c.in_ok-parts.parts c.in_ok-all.all (c.args.step ∷ []) (c.args.step ∷ []) list refl c.in_ok-all.ensures)
