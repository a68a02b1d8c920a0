use Rattle.std.proofs.Common.{◌≡◌, ◌≤◌, ◌^◌, None}
use Rattle.serial_server.specs.Served.{IsMarked}
use Rattle.serial_server.proofs.Sessions.{SoFar}
use Rattle.serial_server.proofs.serve.serve_lines.Given as goal

abbrev pub invariant-lines : goal.invariant-lines
invariant-lines g l = record {
  so_far : SoFar g.A.Analyser.has_list g.A.Analyser.has_hover l.reader l.session (g.S.Source.left l.fn.source) (g.S.Source.left l.source) (g.K.Sink.written l.fn.sink) (g.K.Sink.written l.sink);
  counted : l.session.state.taken ≡ l.number;
  within : l.reader.taken ≤ l.reader.most;
  most : l.reader.most ≡ 2 ^ 40;
  fault : l.reader.fault ≡ None;
  at_end : IsMarked (g.S.Source.ended l.fn.source) (g.S.Source.ended l.source) l.reader.at_end;
  reads : g.S.Source.faults l.source ≡ g.S.Source.faults l.fn.source;
  writes : g.K.Sink.faults l.sink ≡ g.K.Sink.faults l.fn.sink;
}
