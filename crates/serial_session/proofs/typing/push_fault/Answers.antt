use Rattle.std.proofs.Common.{◌++◌, option_to_list, sym, ap, ◌∙◌}
use Rattle.std.proofs.lemmas.List.{append-nil}
use Rattle.py_base.specs.Places.{at_of}
use Rattle.serial_session.proofs.FaultLaws.{read_faults-at}
use Rattle.serial_session.proofs.typing.push_fault.Goals as goal

pub returns-in_ok-push : goal.returns-in_ok-push
returns-in_ok-push c =
    let by = read_faults-at (at_of c.args.places.now) c.args.walk.now c.args.line c.args.read.now c.antecedent.result c.requires.at c.antecedent.ensures in
    c.in_ok-push.ensures.ok
    ∙ ap (λ o. c.args.list.now ++ option_to_list o) (sym c.in-Some.is ∙ c.in_ok-diag.ensures)
    ∙ ap (λ faults. c.args.list.now ++ faults) by

pub returns-in_default : goal.returns-in_default
returns-in_default c =
    let by = read_faults-at (at_of c.args.places.now) c.args.walk.now c.args.line c.args.read.now c.antecedent.result c.requires.at c.antecedent.ensures in
    sym (append-nil c.args.list.now)
    ∙ ap (λ o. c.args.list.now ++ option_to_list o) (sym c.in_default.is ∙ c.in_ok-diag.ensures)
    ∙ ap (λ faults. c.args.list.now ++ faults) by
