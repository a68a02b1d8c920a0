use Rattle.std.proofs.Common.{sym, ◌∙◌, ◌+◌, false, refl, get_or}
use Rattle.std.proofs.lemmas.List.{take_rest}
use Rattle.py_blocks.specs.declared.line.LineKind.TheVariants as kinds
use Rattle.py_blocks.proofs.Going.{passing-taken, passing-put, passing-end}
use Rattle.py_blocks.proofs.settle.settled_lines.Goals as goal
use Rattle.py_blocks.proofs.settle.settled_lines.Goals.{then-not-is_taken+in_ok-taken, else-not-is_taken}

pub loop-at-preserved : goal.loop-at-preserved
loop-at-preserved c =
    let lines = c.args.lines.now in
    let at = c.loop-at.at in
    let x = get_or lines at (record { column = 0; kind = kinds.Plain; opens = false; bare = false; returns = false; jumps = false; fits = false; place = 0 }) in
    elim c.if-not-is_taken.branch [
      | then-not-is_taken+in_ok-taken w ↦
          rw (w.standing-is, w.notes-is, w.stages-is, w.taken-is) (passing-put lines at c.loop-at.standing.items w.put.new.standing.items c.loop-at.notes.items w.put.new.notes.items c.loop-at.stages.items w.put.new.stages.items c.loop-at.taken w.in_ok-taken.taken x _ _ c.loop-at-test.true refl (sym c.is_taken.ensures ∙ w.if-not-is_taken.true) (take_rest lines (at + 1)) w.in_ok-taken.ensures.more w.in_ok-taken.ensures.notes w.in_ok-taken.ensures.stages c.loop-at.invariant)
      | else-not-is_taken w ↦
          rw (w.standing-is, w.notes-is, w.stages-is, w.taken-is) (passing-taken lines at c.loop-at.standing.items c.loop-at.notes.items c.loop-at.stages.items c.loop-at.taken x _ c.loop-at-test.true refl (sym c.is_taken.ensures ∙ w.if-not-is_taken.false) c.loop-at.invariant)
    ]

pub returns : goal.returns
returns c = passing-end _ _ _ _ _ _ c.loop-at-test.false c.loop-at.invariant
