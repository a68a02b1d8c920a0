use Rattle.std.proofs.Common.{◌≡◌, ◌++◌, drop}
use Rattle.flow_rows.specs.Expressions.{loop_arrows}
use Rattle.flow_rows.proofs.comprehensions.add_loops.Given as goal

abbrev pub invariant-loop-clause : goal.invariant-loop-clause
invariant-loop-clause l =
    l.arrows ++ loop_arrows l.ends l.copy l.element l.from l.around (drop l.clause-index l.clauses)
    ≡ l.initial.arrows ++ loop_arrows l.ends l.copy l.element l.fn.start l.fn.outside l.clauses
