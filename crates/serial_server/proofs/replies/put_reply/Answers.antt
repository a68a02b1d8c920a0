use Rattle.serial_server.proofs.Puts.{puts_nothing, puts_within}
use Rattle.serial_server.proofs.replies.put_reply.Goals as goal

pub returns-in-Err-clause-err : goal.returns-in-Err-clause-err
returns-in-Err-clause-err g c = puts_nothing _ _

pub returns-clause-err : goal.returns-clause-err
returns-clause-err g c = puts_within c.args.out.now c.in-Err-put_all.ensures.err.0 _ _ (rw (c.as_slice.ensures, c.in-Ok.ensures) at c.in-Err-put_all.ensures.err.1)
