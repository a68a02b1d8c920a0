use Rattle.std.proofs.Common.{◌≡◌, true, false, rules, refl}
use Rattle.edge_io.proofs.Readings.{gives_line, moves_all, fills_more, gives_last, breaks_line, breaks_off, lf_met, ready_still, ready_fills}
use Rattle.edge_io.proofs.reader.LineReader.read_line.Goals as goal

pub returns-then-whole-clause-answer : goal.returns-then-whole-clause-answer
returns-then-whole-clause-answer g c = gives_line _ _ _ _ _ _ _ _ _ c.loop-moved.invariant.far (rw c.if-whole.true at c.in-Ok.ensures.moves)

pub loop-moved-preserved : goal.loop-moved-preserved
loop-moved-preserved g c =
    let moves = rw c.if-whole.false at c.in-Ok.ensures.moves in
    let far = moves_all _ _ _ _ _ _ _ _ _ c.loop-moved.invariant.far moves in
    let ensures = c.in-Ok-true.ensures in
    record {
      far = fills_more _ _ _ _ _ _ _ _ _ c.fill.new.source far (moves.rest refl) ensures.gives (rw c.in-Ok-true.field-0-test at ensures.fills) ensures.fault ensures.within;
      ends = search rules;
      used_up = search rules;
      quiet = search rules;
    }

pub returns-in-Ok-false-2-clause-answer : goal.returns-in-Ok-false-2-clause-answer
returns-in-Ok-false-2-clause-answer g c =
    let moves = rw c.if-whole.false at c.in-Ok.ensures.moves in
    let far = moves_all _ _ _ _ _ _ _ _ _ c.loop-moved.invariant.far moves in
    let ensures = c.in-Ok-false.ensures in
    gives_last _ _ _ _ _ _ _ _ _ far (moves.rest refl) ensures.gives (rw c.in-Ok-false.field-0-test at ensures.fills) (λ none. let e : false ≡ true = (c.if-is_empty.ensures far.bytes far.is).1 none in cc)

pub returns-in-Err-fill-clause-answer : goal.returns-in-Err-fill-clause-answer
returns-in-Err-fill-clause-answer g c =
    let moves = rw c.if-whole.false at c.in-Ok.ensures.moves in
    let far = moves_all _ _ _ _ _ _ _ _ _ c.loop-moved.invariant.far moves in
    let ensures = c.in-Err-fill.ensures in
    breaks_line c.in-Err-fill.fault _ _ _ _ _ _ _ _ _ far (moves.rest refl) ensures.gives ensures.fills

pub returns-in-Err-clause-answer : goal.returns-in-Err-clause-answer
returns-in-Err-clause-answer g c = rw c.in-Err.ensures.err (breaks_off _ _ _ _ _ _ _ c.loop-moved.invariant.far)

pub returns-in-Err-clause-ready : goal.returns-in-Err-clause-ready
returns-in-Err-clause-ready g c = ready_still _ _ _ _ _ _ _ c.loop-moved.invariant.far

pub returns-then-whole-clause-ready : goal.returns-then-whole-clause-ready
returns-then-whole-clause-ready g c = ready_still _ _ _ _ _ _ _ c.loop-moved.invariant.far

pub returns-then-whole-clause-full : goal.returns-then-whole-clause-full
returns-then-whole-clause-full g c = λ full. absurd (lf_met _ _ _ _ _ _ _ _ _ c.loop-moved.invariant.far (rw c.if-whole.true at c.in-Ok.ensures.moves) full)

pub returns-in-Ok-false-2-clause-ready : goal.returns-in-Ok-false-2-clause-ready
returns-in-Ok-false-2-clause-ready g c =
    let moves = rw c.if-whole.false at c.in-Ok.ensures.moves in
    ready_fills _ _ _ _ _ _ _ _ (moves_all _ _ _ _ _ _ _ _ _ c.loop-moved.invariant.far moves) (moves.rest refl) c.in-Ok-false.ensures.ready

pub returns-in-Err-fill-clause-ready : goal.returns-in-Err-fill-clause-ready
returns-in-Err-fill-clause-ready g c =
    let moves = rw c.if-whole.false at c.in-Ok.ensures.moves in
    ready_fills _ _ _ _ _ _ _ _ (moves_all _ _ _ _ _ _ _ _ _ c.loop-moved.invariant.far moves) (moves.rest refl) c.in-Err-fill.ensures.ready
