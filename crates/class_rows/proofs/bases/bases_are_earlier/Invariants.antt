use Rattle.std.proofs.Common.{ℕ, ◌<◌, ◌+◌, get_or}
use Rattle.class_rows.specs.declared.head.ClassHead.{ClassHead}
use Rattle.class_rows.specs.Classes.{known}
use Rattle.class_rows.specs.Waits.{AreBelow}
use Rattle.class_rows.proofs.bases.bases_are_earlier.Given as goal

abbrev pub invariant-loop-place : goal.invariant-loop-place
invariant-loop-place l = (k : ℕ) (d : ClassHead) → k < l.place → AreBelow (53 + k) (known (get_or l.heads k d).bases)
