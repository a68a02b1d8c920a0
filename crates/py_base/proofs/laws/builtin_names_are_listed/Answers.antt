use Rattle.py_base.proofs.DistinctNames.{builtins_are_listed}
use Rattle.py_base.proofs.laws.builtin_names_are_listed.Goals as goal

pub returns : goal.returns
returns c = builtins_are_listed
