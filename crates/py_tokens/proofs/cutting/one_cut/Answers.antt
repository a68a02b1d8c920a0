use Rattle.py_tokens.proofs.CutLaws.{unique}
use Rattle.py_tokens.proofs.cutting.one_cut.Goals as goal

pub returns : goal.returns
returns c = unique
