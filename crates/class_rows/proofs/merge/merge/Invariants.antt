use Rattle.std.proofs.Common.{◌≡◌, length, All}
use Rattle.class_rows.specs.Waits.{AreWaits, AreBelow, AreHeld, AreReady}
use Rattle.class_rows.proofs.Leads.{Led, size}
use Rattle.class_rows.proofs.merge.merge.Given as goal

abbrev pub invariant-loop-class : goal.invariant-loop-class
invariant-loop-class l = record {
  places : length l.waits ≡ length l.fn.waits;
  below : All (AreBelow (length l.waits)) l.lists;
  waits : AreWaits l.waits l.lists;
  held : AreHeld l.holders l.lists;
  ready : AreReady l.waits l.lists l.ready;
  leads : Led l.fn.first l.initial.lists l.lists l.order;
}

abbrev pub decreases-loop-class : goal.decreases-loop-class
decreases-loop-class l = size l.lists
