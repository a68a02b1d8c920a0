use Rattle.std.proofs.Common.{◌≡◌, ◌<◌, ℕ, true, []}
use Rattle.std.specs.Prelude.{slice_index_or}
use Rattle.py_base.specs.declared.ids.ClassId.{ClassId}
use Rattle.class_rows.specs.Merge.{has}
use Rattle.class_rows.specs.Waits.{has_place}
use Rattle.class_rows.proofs.merge.note_all.Given as goal

abbrev pub invariant-loop-place : goal.invariant-loop-place
invariant-loop-place l = (k : ℕ) (c : ClassId) → k < l.place → has c (slice_index_or l.lists k []) ≡ true → has_place k (slice_index_or l.holders c.0 []) ≡ true
