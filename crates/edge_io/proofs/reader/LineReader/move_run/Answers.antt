use Rattle.std.proofs.Common.{◌≡◌, ◌∙◌, ◌+◌, ◌-◌, take, drop, refl, ap, sym}
use Rattle.std.proofs.lemmas.List.{drop-drop}
use Rattle.edge_io.specs.Reading.{Reading}
use Rattle.edge_io.proofs.Buffers.{moves_run, waiting_range}
use Rattle.edge_io.proofs.reader.LineReader.move_run.Goals as goal

pub returns-clause-moves : goal.returns-clause-moves
returns-clause-moves c =
    let s = c.self.inside in
    let skip = c.run_len-run.result + c.from.result in
    let range : drop s.at (take s.len s.buf.items) ≡ take (s.len - s.at) (drop s.at c.as_slice.result.now) =
    waiting_range s.buf.items s.at s.len c.self.invariant.ordered ∙ ap (λ items. take (s.len - s.at) (drop s.at items)) (sym c.as_slice.ensures.value) in
    moves_run _ c.args.line c.in-Ok.longer c.args.self.now _ (take (s.len - s.at) (drop s.at c.as_slice.result.now)) c.run_len-run.result skip
    c.run_len-run.ensures refl (sym (ap (λ (r : Reading). r.waiting) c.self.view_is) ∙ range) c.in-Ok.ensures (ap (λ n. c.run_len-run.result + n) c.from.ensures)
    (sym (drop-drop skip s.at (take s.len s.buf.items)) ∙ ap (drop skip) range)
    (record {
      taken = ap (λ (r : Reading). r.taken) c.self.view_is;
      most = ap (λ (r : Reading). r.most) c.self.view_is;
      at_end = ap (λ (r : Reading). r.at_end) c.self.view_is;
      fault = ap (λ (r : Reading). r.fault) c.self.view_is;
    })
