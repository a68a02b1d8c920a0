use Rattle.std.proofs.Common.{◌≡◌, ◌≤◌, ◌<◌, ℕ, [], length, true, false}
use Rattle.std.specs.Prelude.{slice_index_or}
use Rattle.assign_rules.specs.Greatest.{KeepsEach, IsMarked, HoldsBy, count}
use Rattle.assign_rules.proofs.greatest.take_away.Given as goal

abbrev pub invariant-places : goal.invariant-places
invariant-places l = record {
  within : l.left ≤ length l.clauses;
  long : length l.set ≡ length l.initial.set;
  keeps : KeepsEach l.clauses l.initial.set l.set;
  most : count l.set ≤ count l.initial.set;
  fewer : l.has_changed ≡ true → count l.set < count l.initial.set;
  holds : l.has_changed ≡ false → (p : ℕ) → l.left ≤ p → p < length l.clauses → IsMarked l.set p → HoldsBy l.set (slice_index_or l.clauses p []);
}

abbrev pub decreases-places : goal.decreases-places
decreases-places l = l.left
