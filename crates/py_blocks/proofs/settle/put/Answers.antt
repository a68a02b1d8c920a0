use Rattle.std.proofs.Common.{sym, ◌∙◌}
use Rattle.py_blocks.proofs.Going.{put-faulty, faulty-noted, put-fine, fine-noted}
use Rattle.py_blocks.proofs.Staging.{may-add-turned, may-add-one}
use Rattle.py_blocks.proofs.settle.put.Goals as goal

pub add_stages-requires-clause-noted : goal.add_stages-requires-clause-noted
add_stages-requires-clause-noted c =
    rw c.as_slice-then-is_faulty-4.ensures.value (may-add-turned c.args.standing.now.items c.undecorate-kept.new.standing.items c.push.new.self.items c.error_line-error.result c.args.stages.now.items c.truncate.new.self.items c.undecorate-kept.result c.requires.stages c.undecorate-kept.ensures.within c.undecorate-kept.ensures.before c.in_ok-push.ensures.items c.truncate.ensures.items).noted

pub add_stages-requires-else-is_faulty-clause-within : goal.add_stages-requires-else-is_faulty-clause-within
add_stages-requires-else-is_faulty-clause-within c =
    rw c.as_slice-else-is_faulty-3.ensures.value (may-add-one c.args.standing.now.items c.push-else-is_faulty.new.self.items c.args.line c.args.stages.now.items c.requires.stages c.in_ok-push-3.ensures.items).within

pub add_stages-requires-else-is_faulty-clause-noted : goal.add_stages-requires-else-is_faulty-clause-noted
add_stages-requires-else-is_faulty-clause-noted c =
    rw c.as_slice-else-is_faulty-3.ensures.value (may-add-one c.args.standing.now.items c.push-else-is_faulty.new.self.items c.args.line c.args.stages.now.items c.requires.stages c.in_ok-push-3.ensures.items).noted

pub returns-in_ok-add_stages-clause-more : goal.returns-in_ok-add_stages-clause-more
returns-in_ok-add_stages-clause-more c =
    let faulty = sym (rw c.as_slice.ensures.value at c.is_faulty.ensures) ∙ c.if-is_faulty.true in
    let error = rw c.as_slice-then-is_faulty.ensures.value at c.error_line-error.ensures in
    put-faulty c.args.standing.now.items c.undecorate-kept.new.standing.items c.push.new.self.items c.args.behind.now c.args.line c.error_line-error.result c.requires.aligned faulty error c.undecorate-kept.ensures.turned c.in_ok-push.ensures.items

pub returns-in_ok-add_stages-clause-notes : goal.returns-in_ok-add_stages-clause-notes
returns-in_ok-add_stages-clause-notes c =
    let error = rw c.as_slice-then-is_faulty.ensures.value at c.error_line-error.ensures in
    let note = rw (c.as_slice-then-is_faulty-2.ensures.value, c.as_slice-then-is_faulty-3.ensures.value) at c.around_by-note.ensures in
    faulty-noted c.args.standing.now.items c.undecorate-kept.new.standing.items c.push.new.self.items c.args.notes.now.items c.push-then-is_faulty.new.self.items c.args.line c.error_line-error.result c.around_by-note.result c.requires.aligned c.requires.notes error c.undecorate-kept.ensures.turned c.in_ok-push.ensures.items note c.in_ok-push-2.ensures.items

pub returns-in_ok-add_stages-2-clause-more : goal.returns-in_ok-add_stages-2-clause-more
returns-in_ok-add_stages-2-clause-more c =
    let fine = sym (rw c.as_slice.ensures.value at c.is_faulty.ensures) ∙ c.if-is_faulty.false in
    put-fine c.args.standing.now.items c.push-else-is_faulty.new.self.items c.args.behind.now c.args.line c.requires.aligned c.requires.read fine c.in_ok-push-3.ensures.items

pub returns-in_ok-add_stages-2-clause-notes : goal.returns-in_ok-add_stages-2-clause-notes
returns-in_ok-add_stages-2-clause-notes c =
    let fine = sym (rw c.as_slice.ensures.value at c.is_faulty.ensures) ∙ c.if-is_faulty.false in
    let note = rw (c.as_slice-else-is_faulty.ensures.value, c.as_slice-else-is_faulty-2.ensures.value) at c.around_by-note-else-is_faulty.ensures in
    fine-noted c.args.standing.now.items c.push-else-is_faulty.new.self.items c.args.behind.now c.args.notes.now.items c.push-else-is_faulty-2.new.self.items c.args.line c.around_by-note-else-is_faulty.result c.requires.read fine c.requires.notes c.in_ok-push-3.ensures.items note c.in_ok-push-4.ensures.items
