use Rattle.std.proofs.Common.{◌≡◌, take, true}
use Rattle.py_tokens.specs.Chars.{every, has}
use Rattle.py_tokens.proofs.chars.run_len.Given as goal

abbrev pub invariant-loop-i : goal.invariant-loop-i
invariant-loop-i l = every (has l.class) (take l.i l.text) ≡ true
