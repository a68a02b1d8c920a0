use Rattle.std.proofs.Common.{Some}
use Rattle.py_tokens.specs.States.{kind_from}
use Rattle.py_tokens.proofs.Fronts.{Read}
use Rattle.py_tokens.proofs.states.longest_from.Given as goal

abbrev pub invariant-loop-i : goal.invariant-loop-i
invariant-loop-i l = Read kind_from (Some l.fn.start) l.text l.best (Some l.state) l.i
