use Rattle.std.proofs.Common.{◌≡◌, ◌∙◌, ◌≤◌, length, true, false, sym, ap, arith}
use Rattle.edge_io.specs.Reading.{Reading}
use Rattle.edge_io.proofs.Buffers.{nothing_waits, used_up}
use Rattle.edge_io.proofs.Readings.{is_over, is_kept}
use Rattle.edge_io.proofs.reader.LineReaderCutter.next_line.Goals as goal
use Rattle.edge_io.proofs.reader.LineReaderCutter.next_line.Goals.{else-self-via-then-self+else-self-2, else-self-via-else-self}

pub returns-then-self-2-clause-answer : goal.returns-then-self-2-clause-answer
returns-then-self-2-clause-answer g c =
    let s = c.self.inside in
    let same : s.at ≡ s.len = omega (arith, c.if-self-2.true) in
    let fits : s.len ≤ length s.buf.items = omega (arith, c.self.invariant.fits, c.self.invariant.whole) in
    λ _. is_over c.args.self.now _ (sym (ap (λ (r : Reading). r.at_end) c.self.view_is) ∙ c.if-self.true) (sym (ap (λ (r : Reading). r.waiting) c.self.view_is) ∙ used_up s.buf.items s.at s.len same fits)

pub returns-in-Ok-clause-over : goal.returns-in-Ok-clause-over
returns-in-Ok-clause-over g c = λ _ at_end nothing.
    (let s = c.self.inside in
    let fits : s.len ≤ length s.buf.items = omega (arith, c.self.invariant.fits, c.self.invariant.whole) in
    let ended : s.at_end ≡ true = ap (λ (r : Reading). r.at_end) c.self.view_is ∙ at_end in
    let same : s.at ≡ s.len = nothing_waits s.buf.items s.at s.len c.self.invariant.ordered fits (ap (λ (r : Reading). r.waiting) c.self.view_is ∙ nothing) in
    absurd (elim c.else-self.branch [
      | else-self-via-then-self+else-self-2 w ↦ omega (arith, same, w.if-self-2.false)
      | else-self-via-else-self w ↦ (let e : true ≡ false = sym ended ∙ w.if-self.false in cc)
    ]))

pub returns-in-Err-clause-over : goal.returns-in-Err-clause-over
returns-in-Err-clause-over g c = λ _ at_end nothing.
    (let s = c.self.inside in
    let fits : s.len ≤ length s.buf.items = omega (arith, c.self.invariant.fits, c.self.invariant.whole) in
    let ended : s.at_end ≡ true = ap (λ (r : Reading). r.at_end) c.self.view_is ∙ at_end in
    let same : s.at ≡ s.len = nothing_waits s.buf.items s.at s.len c.self.invariant.ordered fits (ap (λ (r : Reading). r.waiting) c.self.view_is ∙ nothing) in
    absurd (elim c.else-self.branch [
      | else-self-via-then-self+else-self-2 w ↦ omega (arith, same, w.if-self-2.false)
      | else-self-via-else-self w ↦ (let e : true ≡ false = sym ended ∙ w.if-self.false in cc)
    ]))

pub returns-in-Err-clause-answer : goal.returns-in-Err-clause-answer
returns-in-Err-clause-answer g c =
    λ _. is_kept c.in-Err.fault c.args.self.now c.read_line.new.self _ _ _ (ap (λ (r : Reading). r.taken) c.self-2.view_is) (ap (λ (r : Reading). r.most) c.self-2.view_is) (ap (λ (r : Reading). r.at_end) c.self-2.view_is)
    c.in-Err.ensures.answer
