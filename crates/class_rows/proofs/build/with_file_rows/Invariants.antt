use Rattle.std.proofs.Common.{◌≡◌, ◌+◌, [], length, take}
use Rattle.class_rows.specs.Waits.{AreWaits}
use Rattle.class_rows.proofs.Growing.{IsBuilt}
use Rattle.class_rows.proofs.build.with_file_rows.Given as goal

abbrev pub invariant-loop-head : goal.invariant-loop-head
invariant-loop-head l = record {
  built : IsBuilt (take l.head-index l.heads) l.rows;
  count : length l.rows ≡ 53 + l.head-index;
  places : length l.waits ≡ 53 + length l.heads;
  held : length l.holders ≡ 53 + length l.heads;
  clear : AreWaits l.waits [];
}
