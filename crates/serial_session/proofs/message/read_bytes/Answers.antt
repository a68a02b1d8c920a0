use Rattle.std.proofs.Common.{◌≡◌, sym, subst}
use Rattle.std.specs.Prelude.{IfOk}
use Rattle.serial_session.proofs.Messages.{message_of-text, read_message-no_text}
use Rattle.serial_session.proofs.message.read_bytes.Goals as goal

pub returns-in-Ok : goal.returns-in-Ok
returns-in-Ok c =
    subst (λ asked. IfOk c.read_text.result (λ said. said ≡ asked)) (message_of-text c.args.bytes.now c.in-Ok.text.now c.in-Ok.ensures.cases.0 c.if-bytes-gt-LINE_LIMIT.false c.in-Ok.ensures.cases.1)
    c.read_text.ensures

pub returns-in-Err : goal.returns-in-Err
returns-in-Err c = sym (read_message-no_text c.args.bytes.now c.if-bytes-gt-LINE_LIMIT.false c.in-Err.ensures.cases.0)
