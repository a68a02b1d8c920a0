use Rattle.std.proofs.Common.{◌∙◌}
use Rattle.py_grammar.proofs.OrderLemmas.{lambda-some}
use Rattle.py_grammar.proofs.order.does_lambda_fit.Goals as goal

pub returns : goal.returns
returns c = c.do_parameters_fit.ensures ∙ lambda-some c.args.parts.now
