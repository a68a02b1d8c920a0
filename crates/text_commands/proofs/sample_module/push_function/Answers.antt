use Rattle.text_commands.proofs.Functions.{function_pushed}
use Rattle.text_commands.proofs.sample_module.push_function.Goals as goal

pub returns : goal.returns
returns c =
    function_pushed _ _ _ _ _ _ _ c.args.number c.args.called (rw c.from-number.ensures at c.in_ok-push_numbered.ensures) c.in_ok-push_str.ensures.bytes c.in_ok-push_str-2.ensures.bytes (rw c.from.ensures at c.in_ok-push_numbered-2.ensures) (rw c.from-number.ensures at c.in_ok-push_numbered-3.ensures) c.in_ok-push_str-3.ensures.bytes
