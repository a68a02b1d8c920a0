use Rattle.std.proofs.Common.{arith}
use Rattle.class_rows.proofs.Counting.{waiting_more_le}
use Rattle.class_rows.proofs.merge.count_tails.Goals as goal

pub count-requires-clause-fits : goal.count-requires-clause-fits
count-requires-clause-fits c = λ n below.
    let more = waiting_more_le n c.args.lists.now c.loop-list.list-index c.list-item.result c.tail.result.now (omega arith) c.list-item.is c.tail.ensures in
    omega (arith, more, c.loop-list.invariant n below, c.requires.fits n)
