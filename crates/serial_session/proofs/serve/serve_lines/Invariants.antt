use Rattle.std.proofs.Common.{◌≡◌, ◌≤◌, ◌^◌, None}
use Rattle.serial_session.specs.Served.{IsMarked}
use Rattle.serial_session.proofs.Sessions.{SoFar}
use Rattle.serial_session.proofs.serve.serve_lines.Given as goal

abbrev pub invariant-lines : goal.invariant-lines
invariant-lines g l = record {
  so_far : SoFar l.number l.reader l.session.journal l.session.opened (g.S.Source.left l.fn.source) (g.S.Source.left l.source) (g.K.Sink.written l.fn.sink) (g.K.Sink.written l.sink);
  within : l.reader.taken ≤ l.reader.most;
  most : l.reader.most ≡ 2 ^ 40;
  fault : l.reader.fault ≡ None;
  at_end : IsMarked (g.S.Source.ended l.fn.source) (g.S.Source.ended l.source) l.reader.at_end;
  reads : g.S.Source.faults l.source ≡ g.S.Source.faults l.fn.source;
  writes : g.K.Sink.faults l.sink ≡ g.K.Sink.faults l.fn.sink;
}
