use Rattle.text_commands.proofs.Functions.{summary_pushed}
use Rattle.text_commands.proofs.summary.summary.Goals as goal

pub returns : goal.returns
returns c =
    summary_pushed _ _ _ _ _ _ c.args.text.now c.args.functions c.args.list.now c.new-shown.ensures.bytes (rw c.from.ensures at c.in_ok-push_numbered.ensures) c.in_ok-push_numbered-2.ensures (rw (c.line_count.ensures, c.as_bytes.ensures.value) at c.in_ok-push_numbered-3.ensures) c.in_ok-push_numbered-4.ensures c.in_ok-push_last.ensures
