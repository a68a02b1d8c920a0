use Rattle.serial_server.proofs.LineServed.{line_has_one, line_nothing, line_cut, line_served, line_partly, line_ends}
use Rattle.serial_server.proofs.lines.serve_read.Goals as goal

pub returns-in-Err-clause-err : goal.returns-in-Err-clause-err
returns-in-Err-clause-err g c = line_nothing _ _ _ _ _ _ c.in-Err.ensures.kept

pub returns-in-Err-put_replies-clause-err : goal.returns-in-Err-put_replies-clause-err
returns-in-Err-put_replies-clause-err g c = line_cut _ _ _ _ c.in-Ok.ensures.turn _ _ c.requires.going _ _ (rw c.as_slice.ensures at c.in-Err-put_replies.ensures.err)

pub settle-requires : goal.settle-requires
settle-requires g c = record { one = line_has_one _ _ _ _ c.in-Ok.ensures.turn c.requires.rest c.requires.fresh }

pub returns-in-Ok-settle-clause-ok : goal.returns-in-Ok-settle-clause-ok
returns-in-Ok-settle-clause-ok g c = line_served _ _ _ _ c.in-Ok.ensures.turn _ _ c.requires.going _ _ _ _ (rw c.as_slice.ensures at c.in-Ok-put_replies.ensures.ok) c.in-Ok-settle.ensures.ok

pub returns-in-Ok-settle-clause-ends : goal.returns-in-Ok-settle-clause-ends
returns-in-Ok-settle-clause-ends g c = line_ends _ _ _ _ c.in-Ok.ensures.turn c.requires.going

pub returns-clause-err : goal.returns-clause-err
returns-clause-err g c = line_partly _ _ _ _ c.in-Ok.ensures.turn _ _ c.requires.going _ _ _ _ (rw c.as_slice.ensures at c.in-Ok-put_replies.ensures.ok) c.in-Err-settle.ensures.err
