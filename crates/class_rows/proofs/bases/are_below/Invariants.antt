use Rattle.std.proofs.Common.{take}
use Rattle.class_rows.specs.Classes.{known}
use Rattle.class_rows.specs.Waits.{AreBelow}
use Rattle.class_rows.proofs.bases.are_below.Given as goal

abbrev pub invariant-loop-base : goal.invariant-loop-base
invariant-loop-base l = AreBelow l.limit (known (take l.base-index l.bases))
