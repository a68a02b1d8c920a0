use Rattle.std.proofs.Common.{refl}
use Rattle.op_rules.specs.Results.{magnitude}
use Rattle.op_rules.proofs.results.magnitudes.Goals as goal

pub returns : goal.returns
returns g c =
    let w = g.P.Program.world c.args.ruled.now.program.now in
    c.in_ok-parts.ensures (magnitude w) (λ a. refl)
