use Rattle.std.proofs.Common.{◌++◌, [], ◌∷◌, ap, ◌∙◌}
use Rattle.std.proofs.lemmas.List.{append_assoc}
use Rattle.serial_session.specs.Typing.{is_bound_in, revealed_at, read_faults}
use Rattle.py_base.specs.Places.{at_of}
use Rattle.serial_session.specs.LineTypes.{bound_above, type_in}
use Rattle.serial_session.proofs.typing.push_reveal.Goals as goal

pub returns-clause-list : goal.returns-clause-list
returns-clause-list c =
    let at = at_of c.args.places.now in
    let walk = c.args.walk.now in
    let line = c.args.line in
    let read = c.args.read.now in
    let list = c.args.list.now in
    let shown = c.line_type-shown.ensures.value ∙ ap (type_in (is_bound_in walk) (bound_above walk line)) c.requires.at in
    let added = c.in_ok-revealed.ensures ∙ ap (revealed_at at read) shown in
    c.in_ok-push_fault.ensures
    ∙ ap (λ lines. c.push.new.self ++ read_faults at (is_bound_in lines) (bound_above lines line) read) c.line_type-shown.ensures.same
    ∙ ap (λ more. more ++ read_faults at (is_bound_in walk) (bound_above walk line) read) c.in_ok-push.ensures.ok
    ∙ append_assoc list (c.in_ok-revealed.field-0 ∷ []) (read_faults at (is_bound_in walk) (bound_above walk line) read)
    ∙ ap (λ d. list ++ d ∷ read_faults at (is_bound_in walk) (bound_above walk line) read) added
