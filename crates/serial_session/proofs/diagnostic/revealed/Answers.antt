use Rattle.std.proofs.Common.{◌∙◌, ap}
use Rattle.type_terms.specs.Text.{text}
use Rattle.diagnostics.specs.Messages.{diagnostic, message_row}
use Rattle.diagnostics.specs.declared.message.Message.TheVariants.{RevealType}
use Rattle.py_base.specs.Places.{at_of}
use Rattle.serial_session.specs.Typing.{revealed_at}
use Rattle.serial_session.specs.TypeText.{nothing_known, text_of}
use Rattle.serial_session.proofs.diagnostic.revealed.Goals as goal

pub returns-in-Ok : goal.returns-in-Ok
unfolding text_of
returns-in-Ok c =
    c.in-Ok.ensures.value
    ∙ ap (λ row. diagnostic c.at.result (message_row (text (record nothing_known { facts = record nothing_known.facts { func = λ func. row } }) 4) (RevealType c.in_ok-atoms.field-0))) c.new.ensures
    ∙ ap (λ at. diagnostic at (message_row text_of (RevealType c.in_ok-atoms.field-0))) c.at.ensures
    ∙ ap (revealed_at (at_of c.args.places.now) c.args.read.now) c.in_ok-atoms.ensures
