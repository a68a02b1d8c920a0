use Rattle.std.proofs.Common.{◌≡◌, drop}
use Rattle.flow_forms.specs.Forms.{finally_of}
use Rattle.flow_forms.proofs.compounds.finally_body.Given as goal

abbrev pub invariant-loop-clause : goal.invariant-loop-clause
invariant-loop-clause l = finally_of (drop l.clause-index l.clauses) ≡ finally_of l.clauses
