use Rattle.std.proofs.Common.{◌≡◌, ◌++◌, drop}
use Rattle.flow_forms.specs.Forms.{lambda_run}
use Rattle.flow_forms.proofs.functions.add_lambda_run.Given as goal

abbrev pub invariant-loop-next : goal.invariant-loop-next
invariant-loop-next l = l.list ++ lambda_run l.tree.nodes l.before (drop l.next-index l.more) ≡ l.initial.list ++ lambda_run l.tree.nodes l.fn.part l.more
