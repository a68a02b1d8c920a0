use Rattle.std.proofs.Common.{◌≡◌, ◌||◌, ℕ, take}
use Rattle.std.specs.BTreeSet.{contains}
use Rattle.std.specs.Ordering.{nat_cmp}
use Rattle.class_rows.specs.Waits.{has_place}
use Rattle.class_rows.proofs.merge.make_ready.Given as goal

abbrev pub invariant-loop-place : goal.invariant-loop-place
invariant-loop-place l = (k : ℕ) → contains nat_cmp l.ready k ≡ (contains nat_cmp l.initial.ready k || has_place k (take l.place-index l.places))
