use Rattle.py_tokens.proofs.Exists.{is_cut, only_cut}
use Rattle.py_tokens.proofs.cutting.one_reading.Goals as goal

pub returns-clause-is_cut : goal.returns-clause-is_cut
returns-clause-is_cut c = is_cut

pub returns-clause-only : goal.returns-clause-only
returns-clause-only c = only_cut
