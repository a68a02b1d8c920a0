use Rattle.text_commands.proofs.CheckEnds.{comes_of}
use Rattle.text_commands.proofs.checking.check_whole.Goals as goal

pub returns-in-Ok-clause-comes : goal.returns-in-Ok-clause-comes
returns-in-Ok-clause-comes g c = comes_of _ c.check_bytes.result _ _ _ _ (record { few = c.in-Ok.ensures.whole.0; ends = c.in-Ok.ensures.whole.1 }) (rw c.as_slice.ensures.value at c.check_bytes.ensures.checks)
