use Rattle.std.proofs.Common.{◌≡◌, drop}
use Rattle.flow_forms.specs.Forms.{else_of}
use Rattle.flow_forms.proofs.compounds.else_body.Given as goal

abbrev pub invariant-loop-clause : goal.invariant-loop-clause
invariant-loop-clause l = else_of (drop l.clause-index l.clauses) ≡ else_of l.clauses
