use Rattle.serial_session.proofs.Replies.{reply_has_no_float}
use Rattle.serial_session.proofs.reply.write_out.Goals as goal

pub line_text-requires : goal.line_text-requires
line_text-requires c = rw c.in-Ok.ensures (reply_has_no_float c.args.out.now)
