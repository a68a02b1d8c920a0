use Rattle.std.proofs.Common.{◌≡◌, drop}
use Rattle.std.specs.List.{list_any}
use Rattle.py_tokens.specs.Lines.{is_wide}
use Rattle.py_tokens.proofs.lines.own_fault.Given as goal

abbrev pub invariant-loop-token : goal.invariant-loop-token
invariant-loop-token l = list_any is_wide (drop l.token-index l.tokens) ≡ list_any is_wide l.tokens
