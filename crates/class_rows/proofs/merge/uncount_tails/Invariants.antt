use Rattle.std.proofs.Common.{drop}
use Rattle.class_rows.specs.Waits.{AreWaits}
use Rattle.class_rows.proofs.merge.uncount_tails.Given as goal

abbrev pub invariant-loop-list : goal.invariant-loop-list
invariant-loop-list l = AreWaits l.waits (drop l.list-index l.lists)
