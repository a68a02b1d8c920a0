use Rattle.std.proofs.Common.{◌≡◌, ◌<◌, ◌+◌, ℕ, length, take, slice_index}
use Rattle.class_rows.specs.Waits.{occurrences}
use Rattle.class_rows.proofs.merge.count.Given as goal

abbrev pub invariant-loop-class : goal.invariant-loop-class
invariant-loop-class l =
    (n : ℕ) → n < length l.waits → slice_index l.waits n ≡ slice_index l.initial.waits n + occurrences n (take l.class-index l.classes)
