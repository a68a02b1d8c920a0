use Rattle.op_rules.specs.Results.{first_arguments}
use Rattle.op_rules.specs.Steps.{IsCall}
use Rattle.op_rules.specs.World.{World}
use Rattle.value_terms.specs.Outcome.{gives}
use Rattle.op_rules.proofs.results.all_arguments.Given as goal

abbrev pub invariant-loop-ty : goal.invariant-loop-ty
invariant-loop-ty l = (w : World) → IsCall w l.args l.parts (gives (first_arguments l.ty-index))
