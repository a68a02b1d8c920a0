use Rattle.text_commands.proofs.CheckEnds.{shows_of}
use Rattle.text_commands.proofs.sampling.show_sample.Goals as goal

pub returns-in-Ok-clause-shows : goal.returns-in-Ok-clause-shows
returns-in-Ok-clause-shows g c = shows_of _ c.put_text.result _ _ _ _ c.in-Ok.ensures (rw c.as_str.ensures.value at c.put_text.ensures.puts)
