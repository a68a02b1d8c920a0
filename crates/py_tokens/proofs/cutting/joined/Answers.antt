use Rattle.py_tokens.proofs.CutLaws.{joins}
use Rattle.py_tokens.proofs.cutting.joined.Goals as goal

pub returns : goal.returns
returns c = joins
