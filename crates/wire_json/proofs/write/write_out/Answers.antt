use Rattle.wire_json.proofs.Replies.{reply_has_no_float}
use Rattle.wire_json.proofs.write.write_out.Goals as goal

pub line_text-requires : goal.line_text-requires
line_text-requires c = rw c.in_ok-value.ensures (reply_has_no_float c.args.out.now)
