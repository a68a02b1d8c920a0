use Rattle.std.proofs.Common.{take}
use Rattle.op_rules.specs.Iterations.{iteration}
use Rattle.op_rules.specs.Steps.{IsCall}
use Rattle.value_terms.specs.Outcome.{gives}
use Rattle.value_terms.specs.Term.{each, fixed}
use Rattle.op_rules.proofs.results.iterations.Given as goal

abbrev pub invariant-loop-member : goal.invariant-loop-member
invariant-loop-member g l =
    IsCall (g.P.Program.world l.ruled.program.now) l.ruled.args.now l.parts (gives (each (fixed (take l.member-index l.members)) (iteration (g.P.Program.world l.ruled.program.now))))
