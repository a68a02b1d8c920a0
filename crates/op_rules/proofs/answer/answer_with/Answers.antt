use Rattle.value_terms.specs.Asks.{with_arguments}
use Rattle.op_rules.proofs.CallLemmas.{call_says}
use Rattle.op_rules.proofs.answer.answer_with.Goals as goal

pub returns-clause-value : goal.returns-clause-value
returns-clause-value g c = λ rule is. c.evaluate.ensures.value (with_arguments c.args.args.now rule) (call_says (g.P.Program.world c.args.program.now) c.args.args.now c.args.parts rule is)

pub returns-clause-fails : goal.returns-clause-fails
returns-clause-fails g c = λ rule is. c.evaluate.ensures.fails (with_arguments c.args.args.now rule) (call_says (g.P.Program.world c.args.program.now) c.args.args.now c.args.parts rule is)

pub returns-clause-asked : goal.returns-clause-asked
returns-clause-asked g c = λ rule is. c.evaluate.ensures.asked (with_arguments c.args.args.now rule) (call_says (g.P.Program.world c.args.program.now) c.args.args.now c.args.parts rule is)

pub returns-clause-asked_before : goal.returns-clause-asked_before
returns-clause-asked_before g c = λ rule is. c.evaluate.ensures.asked_before (with_arguments c.args.args.now rule) (call_says (g.P.Program.world c.args.program.now) c.args.args.now c.args.parts rule is)
