use Rattle.std.proofs.Common.{length, drop, ◌-◌, ◌+◌, ◌≤◌}
use Rattle.type_terms.proofs.Merging.{Merges}
use Rattle.type_terms.proofs.union.merge.Given as goal

abbrev pub invariant-loop-at_left : goal.invariant-loop-at_left
invariant-loop-at_left l = record {
  within_left : l.at_left ≤ length l.left;
  within_right : l.at_right ≤ length l.right;
  merges : Merges l.left l.right l.members (drop l.at_left l.left) (drop l.at_right l.right);
}

abbrev pub decreases-loop-at_left : goal.decreases-loop-at_left
decreases-loop-at_left l = (length l.left - l.at_left) + (length l.right - l.at_right)
