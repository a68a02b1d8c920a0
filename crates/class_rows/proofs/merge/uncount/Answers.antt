use Rattle.std.proofs.Common.{◌<◌, length, slice_index_or, arith}
use Rattle.py_base.specs.declared.ids.ClassId.{ClassId}
use Rattle.class_rows.proofs.Counting.{occurrences_more_le}
use Rattle.class_rows.proofs.merge.uncount.Goals as goal

pub overflow_sub-waits : goal.overflow_sub-waits
overflow_sub-waits c =
    let xs = c.args.classes.now in
    let i = c.loop-class.class-index in
    let d : ClassId = record { 0 = 0 } in
    let n = (slice_index_or xs i d).0 in
    let within : i < length xs = omega arith in
    let below : n < length c.args.waits.now = c.requires.below i d within in
    omega (arith, occurrences_more_le xs i d within, c.requires.enough n below, c.loop-class.invariant n (omega arith))
