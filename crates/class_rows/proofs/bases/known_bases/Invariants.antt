use Rattle.std.proofs.Common.{◌≡◌, take}
use Rattle.class_rows.specs.Classes.{known}
use Rattle.class_rows.proofs.bases.known_bases.Given as goal

abbrev pub invariant-loop-base : goal.invariant-loop-base
invariant-loop-base l = l.classes ≡ known (take l.base-index l.bases)
