use Rattle.std.proofs.Common.{◌≡◌, ◌++◌, drop, filter_map}
use Rattle.py_tokens.specs.Lines.{token_in}
use Rattle.py_tokens.proofs.lines.tokens_of.Given as goal

abbrev pub invariant-loop-x : goal.invariant-loop-x
invariant-loop-x l = l.tokens ++ filter_map (token_in l.text) (drop l.x-index l.line) ≡ filter_map (token_in l.text) l.line
