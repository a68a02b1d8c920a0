use Rattle.std.proofs.Common.{◌≡◌, ◌++◌, drop, map}
use Rattle.flow_forms.specs.Forms.{branch_of}
use Rattle.flow_forms.proofs.compounds.add_branches.Given as goal

abbrev pub invariant-loop-clause : goal.invariant-loop-clause
invariant-loop-clause l = l.branches ++ map branch_of (drop l.clause-index l.clauses) ≡ l.initial.branches ++ map branch_of l.clauses
