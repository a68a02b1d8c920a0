use Rattle.std.proofs.Common.{drop, arith}
use Rattle.std.proofs.lemmas.List.{drop_all}
use Rattle.py_stmts.specs.Module.{IsStanding}
use Rattle.py_stmts.proofs.ReadLines.{AreRead-next, AreRead-all}
use Rattle.py_stmts.proofs.texts.standing_lines.Goals as goal

pub loop-standing-preserved : goal.loop-standing-preserved
loop-standing-preserved c =
    rw c.in_ok-push.ensures.ok (AreRead-next (IsStanding c.args.lines.now) c.loop-standing.tree c.standing_line.new.tree c.args.nesting.now c.loop-standing.standing-index _ c.loop-standing.rows c.in_ok-row.row c.loop-standing-test.true c.loop-standing.invariant c.standing_line.ensures.older c.in_ok-row.ensures.linked c.in_ok-row.ensures.row.0 c.in_ok-row.ensures.row.1 c.in_ok-row.ensures.some c.in_ok-row.ensures.none)

pub returns-clause-rows : goal.returns-clause-rows
returns-clause-rows c = AreRead-all (IsStanding c.args.lines.now) c.loop-standing.tree c.args.nesting.now (drop c.loop-standing.standing-index c.args.nesting.now) c.loop-standing.rows (drop_all c.loop-standing.standing-index c.args.nesting.now (omega arith)) c.loop-standing.invariant
