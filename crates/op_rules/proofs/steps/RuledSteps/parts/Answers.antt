use Rattle.op_rules.specs.Steps.{step_says}
use Rattle.op_rules.proofs.RuleLemmas.{says}
use Rattle.op_rules.proofs.steps.RuledSteps.parts.Goals as goal

pub returns-clause-says : goal.returns-clause-says
returns-clause-says g c =
    let w = g.P.Program.world c.args.self.now.program.now in
    says w c.args.self.now.args.now c.in_ok-parts.parts (step_says w c.args.step c.args.member.now) c.in_ok-parts.ensures.rule

pub returns-clause-reach : goal.returns-clause-reach
returns-clause-reach g c = c.in_ok-parts.ensures.reach
