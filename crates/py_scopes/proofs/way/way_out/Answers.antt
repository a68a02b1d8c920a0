use Rattle.std.proofs.Common.{sym, ◌∙◌, arith}
use Rattle.py_scopes.proofs.Walks.{steps-more}
use Rattle.py_scopes.proofs.way.way_out.Goals as goal

pub loop-taken-preserved : goal.loop-taken-preserved
loop-taken-preserved c =
    steps-more c.args.tree.now.nodes c.loop-taken.at c.loop-taken.way c.push.new.self c.loop-taken.taken c.in-Some.step (omega arith) (sym c.step_out.ensures ∙ c.in-Some.is) c.in_ok-push.ensures.ok
    ∙ c.loop-taken.invariant
