use Rattle.std.proofs.Common.{[]}
use Rattle.op_rules.proofs.RuleLemmas.{any_arguments}
use Rattle.op_rules.proofs.answer.answer.Goals as goal

pub returns-clause-value : goal.returns-clause-value
returns-clause-value g c = λ rule is. c.answer_with.ensures.value rule (any_arguments (g.P.Program.world c.args.program.now) [] c.args.parts rule is)

pub returns-clause-fails : goal.returns-clause-fails
returns-clause-fails g c = λ rule is. c.answer_with.ensures.fails rule (any_arguments (g.P.Program.world c.args.program.now) [] c.args.parts rule is)

pub returns-clause-asked : goal.returns-clause-asked
returns-clause-asked g c = λ rule is. c.answer_with.ensures.asked rule (any_arguments (g.P.Program.world c.args.program.now) [] c.args.parts rule is)

pub returns-clause-asked_before : goal.returns-clause-asked_before
returns-clause-asked_before g c = λ rule is. c.answer_with.ensures.asked_before rule (any_arguments (g.P.Program.world c.args.program.now) [] c.args.parts rule is)
