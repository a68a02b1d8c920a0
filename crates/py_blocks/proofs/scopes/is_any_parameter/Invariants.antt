use Rattle.std.proofs.Common.{◌≡◌, false, take}
use Rattle.std.specs.List.{list_any}
use Rattle.py_blocks.specs.Names.{is_parameter_around}
use Rattle.py_blocks.proofs.scopes.is_any_parameter.Given as goal

abbrev pub invariant-loop-name : goal.invariant-loop-name
invariant-loop-name l = list_any (λ n. is_parameter_around l.lines l.at n) (take l.name-index l.declared) ≡ false
