use Rattle.std.proofs.Common.{rules, ◌≡◌, ◌∷◌, [], sym, subst, length}
use Rattle.value_terms.specs.Outcome.{gives}
use Rattle.value_terms.specs.declared.part.Part.TheVariants.{Members}
use Rattle.op_rules.specs.Results.{argument}
use Rattle.op_rules.specs.Steps.{IsCall}
use Rattle.op_rules.proofs.CallLemmas.{is_argument}
use Rattle.op_rules.proofs.results.argument.Goals as goal

pub returns : goal.returns
returns g c =
    let w = g.P.Program.world c.args.ruled.now.program.now in
    let args = c.args.ruled.now.args.now in
    let list : c.push.new.self ≡ Members c.in_ok-ty.ty ∷ [] = search rules in
    subst (λ ps. IsCall w args ps (gives (argument (length args) c.args.place))) (sym list) (is_argument w args c.args.place c.in_ok-ty.ty c.in_ok-ty.ensures)
