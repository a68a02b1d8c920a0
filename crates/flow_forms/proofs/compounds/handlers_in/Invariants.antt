use Rattle.std.proofs.Common.{◌≡◌, ◌++◌, drop}
use Rattle.flow_forms.specs.Forms.{handlers_of}
use Rattle.flow_forms.proofs.compounds.handlers_in.Given as goal

abbrev pub invariant-loop-clause : goal.invariant-loop-clause
invariant-loop-clause l = l.handlers ++ handlers_of (drop l.clause-index l.clauses) ≡ handlers_of l.clauses
