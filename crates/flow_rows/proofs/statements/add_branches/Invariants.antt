use Rattle.std.proofs.Common.{◌≡◌, ◌++◌, drop}
use Rattle.flow_rows.specs.Statements.{branch_kids}
use Rattle.flow_rows.proofs.statements.add_branches.Given as goal

abbrev pub invariant-loop-next : goal.invariant-loop-next
invariant-loop-next l = l.kids ++ branch_kids l.ends l.copy l.end l.before (drop l.next-index l.more) ≡ l.initial.kids ++ branch_kids l.ends l.copy l.end l.fn.branch l.more
