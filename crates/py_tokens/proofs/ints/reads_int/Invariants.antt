use Rattle.std.proofs.Common.{◌≡◌, Some, [], drop}
use Rattle.py_tokens.specs.States.{kind_from}
use Rattle.py_tokens.specs.declared.states.State.TheVariants.{Number}
use Rattle.py_tokens.specs.declared.numbers.InNumber.TheVariants.{Start}
use Rattle.py_tokens.proofs.ints.reads_int.Given as goal

abbrev pub invariant-loop-digit : goal.invariant-loop-digit
invariant-loop-digit l = kind_from (Some (Number l.place)) (drop l.digit-index l.text) [] ≡ kind_from (Some (Number Start)) l.text []
