use Rattle.std.proofs.Common.{refl}
use Rattle.type_terms.specs.Widen.{widened}
use Rattle.value_terms.specs.Term.{fixed}
use Rattle.op_rules.proofs.results.widened_argument.Goals as goal

pub returns : goal.returns
returns g c =
    let w = g.P.Program.world c.args.ruled.now.program.now in
    c.in_ok-parts.ensures (λ a. fixed (widened w.names a)) (λ a. refl)
