use Rattle.std.proofs.Common.{◌≡◌, ◌++◌, drop}
use Rattle.flow_forms.specs.Clauses.{clauses_from}
use Rattle.flow_forms.proofs.clauses.add_clauses.Given as goal

abbrev pub invariant-loop-next : goal.invariant-loop-next
invariant-loop-next l = l.clauses ++ clauses_from l.tree.nodes l.before (drop l.next-index l.more) ≡ l.initial.clauses ++ clauses_from l.tree.nodes l.fn.part l.more
