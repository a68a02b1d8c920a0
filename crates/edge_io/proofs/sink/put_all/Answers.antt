use Rattle.std.proofs.Common.{arith, ◌∙◌}
use Rattle.edge_io.proofs.Streams.{puts_more}
use Rattle.edge_io.proofs.sink.put_all.Goals as goal

pub loop-done-preserved : goal.loop-done-preserved
loop-done-preserved g c = record {
  within = omega (arith, c.in_ok-done.ensures.within);
  written = puts_more _ _ _ c.args.bytes.now c.loop-done.done c.in_ok-done.field-0 c.loop-done.invariant.written c.in_ok-done.ensures.bytes;
  quiet = c.in_ok-done.ensures.quiet ∙ c.loop-done.invariant.quiet;
}
