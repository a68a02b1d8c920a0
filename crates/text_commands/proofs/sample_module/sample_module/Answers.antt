use Rattle.std.proofs.Common.{string_bytes}
use Rattle.text_commands.specs.Sample.{numbered_function}
use Rattle.text_commands.proofs.Functions.{more_functions}
use Rattle.text_commands.proofs.sample_module.sample_module.Goals as goal

pub loop-number-preserved : goal.loop-number-preserved
loop-number-preserved c = rw c.in_ok-push_function.ensures (more_functions (numbered_function c.args.functions) c.args.functions c.loop-number.number (string_bytes c.loop-number.text) _ c.loop-number-test.true c.loop-number.invariant)
