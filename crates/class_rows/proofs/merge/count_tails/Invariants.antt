use Rattle.std.proofs.Common.{take}
use Rattle.class_rows.specs.Waits.{AreWaits}
use Rattle.class_rows.proofs.merge.count_tails.Given as goal

abbrev pub invariant-loop-list : goal.invariant-loop-list
invariant-loop-list l = AreWaits l.waits (take l.list-index l.lists)
