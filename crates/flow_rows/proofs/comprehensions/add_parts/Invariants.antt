use Rattle.std.proofs.Common.{◌≡◌, ◌++◌, drop}
use Rattle.flow_rows.specs.Expressions.{loop_kids}
use Rattle.flow_rows.proofs.comprehensions.add_parts.Given as goal

abbrev pub invariant-loop-clause : goal.invariant-loop-clause
invariant-loop-clause l = l.kids ++ loop_kids l.copy l.element l.around (drop l.clause-index l.clauses) ≡ l.initial.kids ++ loop_kids l.copy l.element l.fn.outside l.clauses
