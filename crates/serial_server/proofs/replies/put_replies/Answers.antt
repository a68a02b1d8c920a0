use Rattle.std.proofs.Common.{◌∙◌}
use Rattle.serial_server.proofs.Puts.{puts_one_more, puts_up_to}
use Rattle.serial_server.proofs.replies.put_replies.Goals as goal

pub loop-out-preserved : goal.loop-out-preserved
loop-out-preserved g c = record {
  so_far = puts_one_more c.args.outs.now c.loop-out.out-index c.out-item.result c.loop-out-test.true c.out-item.is _ _ _ c.loop-out.invariant.so_far c.in-Ok.ensures.ok;
  quiet = c.put_reply.ensures.quiet (λ e. cc (c.in-Ok.is)) ∙ c.loop-out.invariant.quiet;
}

pub returns-in-Err-clause-err : goal.returns-in-Err-clause-err
returns-in-Err-clause-err g c = puts_up_to c.args.outs.now c.loop-out.out-index c.out-item.result c.loop-out-test.true c.out-item.is _ _ _ c.loop-out.invariant.so_far c.in-Err.ensures.err
