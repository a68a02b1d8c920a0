use Rattle.std.proofs.Common.{take}
use Rattle.class_rows.specs.Waits.{AreNoted}
use Rattle.class_rows.proofs.merge.note.Given as goal

abbrev pub invariant-loop-class : goal.invariant-loop-class
invariant-loop-class l = AreNoted (take l.class-index l.classes) l.place l.initial.holders l.holders
