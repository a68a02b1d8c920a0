use Rattle.std.proofs.Common.{◌≡◌, drop}
use Rattle.py_tokens.specs.Lines.{end_of}
use Rattle.py_tokens.proofs.lines.end_of.Given as goal

abbrev pub invariant-loop-x : goal.invariant-loop-x
invariant-loop-x l = end_of (drop l.x-index l.line) l.to ≡ end_of l.line l.at
