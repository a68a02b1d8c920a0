use Rattle.std.proofs.Common.{refl}
use Rattle.op_rules.specs.Results.{type_of_member}
use Rattle.op_rules.proofs.results.classes_of_argument.Goals as goal

pub returns : goal.returns
returns g c =
    let w = g.P.Program.world c.args.ruled.now.program.now in
    c.in_ok-parts.ensures type_of_member (λ a. refl)
