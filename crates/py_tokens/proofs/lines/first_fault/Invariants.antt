use Rattle.std.proofs.Common.{◌≡◌, drop}
use Rattle.py_tokens.specs.Lines.{first_fault}
use Rattle.py_tokens.proofs.lines.first_fault.Given as goal

abbrev pub invariant-loop-x : goal.invariant-loop-x
invariant-loop-x l = first_fault (drop l.x-index l.line) ≡ first_fault l.line
