use Rattle.py_base.proofs.DiagLaws.{diag_cmp-IsAntisymmetric}
use Rattle.py_base.proofs.laws.equal_diags_are_the_same.Goals as goal

pub returns : goal.returns
returns c = diag_cmp-IsAntisymmetric
