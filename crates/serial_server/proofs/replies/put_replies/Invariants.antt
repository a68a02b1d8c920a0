use Rattle.std.proofs.Common.{◌≡◌, take}
use Rattle.edge_io.specs.Stream.{behind}
use Rattle.serial_server.specs.Bytes.{texts}
use Rattle.serial_server.proofs.replies.put_replies.Given as goal

abbrev pub invariant-loop-out : goal.invariant-loop-out
invariant-loop-out g l = record {
  so_far : g.K.Sink.written l.sink ≡ behind (g.K.Sink.written l.fn.sink) (texts (take l.out-index l.outs));
  quiet : g.K.Sink.faults l.sink ≡ g.K.Sink.faults l.fn.sink;
}
