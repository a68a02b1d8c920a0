use Rattle.std.proofs.Common.{◌≡◌, ℕ, true, false, [], length, map, drop}
use Rattle.std.specs.Prelude.{All, slice_index_or}
use Rattle.class_rows.specs.Merge.{has, without}
use Rattle.class_rows.specs.Waits.{has_place, AreWaits, AreBelow, AreHeld, AreReady}
use Rattle.class_rows.proofs.merge.take_class.Given as goal

abbrev pub invariant-loop-place : goal.invariant-loop-place
invariant-loop-place l = record {
  places : length l.waits ≡ length l.initial.waits;
  below : All (AreBelow (length l.waits)) l.lists;
  waits : AreWaits l.waits l.lists;
  tails : (k : ℕ) → has l.class (drop 1 (slice_index_or l.lists k [])) ≡ false;
  held : AreHeld l.holders l.lists;
  ready : AreReady l.waits l.lists l.ready;
  left : (k : ℕ) → has l.class (slice_index_or l.lists k []) ≡ true → has_place k (drop l.place-index l.place-items) ≡ true;
  same : map (without l.class) l.lists ≡ map (without l.class) l.initial.lists;
}
