use Rattle.std.proofs.Common.{◌≡◌, length, true, replicate}
use Rattle.assign_rules.specs.Greatest.{KeepsEach, count}
use Rattle.assign_rules.proofs.greatest.holds_first.Given as goal

abbrev pub invariant-passes : goal.invariant-passes
invariant-passes l = record {
  long : length l.set ≡ length l.clauses;
  keeps : KeepsEach l.clauses (replicate (length l.clauses) true) l.set;
}

abbrev pub decreases-passes : goal.decreases-passes
decreases-passes l = count l.set
