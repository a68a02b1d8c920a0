use Rattle.std.specs.BTreeSet.{btree_set_len}
use Rattle.class_rows.specs.Waits.{AreReady}
use Rattle.class_rows.proofs.merge.pick_head.Given as goal

abbrev pub invariant-loop-place : goal.invariant-loop-place
invariant-loop-place l = AreReady l.waits l.lists l.ready

abbrev pub decreases-loop-place : goal.decreases-loop-place
decreases-loop-place l = btree_set_len l.ready
