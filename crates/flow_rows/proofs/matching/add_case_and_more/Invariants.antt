use Rattle.std.proofs.Common.{◌≡◌, ◌∷◌, ◌++◌, drop}
use Rattle.flow_rows.specs.Statements.{case_kids}
use Rattle.flow_rows.proofs.matching.add_case_and_more.Given as goal

abbrev pub invariant-loop-next : goal.invariant-loop-next
invariant-loop-next l =
    l.kids ++ case_kids l.ends l.copy l.end (l.before ∷ drop l.next-index l.more)
    ≡ l.initial.kids ++ case_kids l.ends l.copy l.end (l.fn.case ∷ l.more)
