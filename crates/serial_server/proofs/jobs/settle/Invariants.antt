use Rattle.std.proofs.Common.{◌≡◌, ◌⊎◌, length, map}
use Rattle.std.specs.Vec.Iter.{into_iter_items, into_iter_len}
use Rattle.session_core.specs.Jobs.{handed_view}
use Rattle.serial_server.proofs.Settling.{NotYet, AllDone}
use Rattle.serial_server.proofs.jobs.settle.Given as goal

abbrev pub invariant-loop-job : goal.invariant-loop-job
invariant-loop-job g l = record {
  part : NotYet l.fn.session l.session (map (handed_view g.A.Analyser.text_of) (into_iter_items l.job-iterator)) (g.K.Sink.written l.fn.sink) (g.K.Sink.written l.sink)
      ⊎ AllDone g.A.Analyser.has_list g.A.Analyser.has_hover l.fn.session l.session (map (handed_view g.A.Analyser.text_of) (into_iter_items l.job-iterator)) (g.K.Sink.written l.fn.sink) (g.K.Sink.written l.sink);
  whole : length (into_iter_items l.job-iterator) ≡ into_iter_len l.job-iterator;
  quiet : g.K.Sink.faults l.sink ≡ g.K.Sink.faults l.fn.sink;
}
