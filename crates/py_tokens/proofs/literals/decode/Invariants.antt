use Rattle.std.proofs.Common.{◌≡◌, Some, drop}
use Rattle.py_tokens.specs.Literals.{decode, append_known}
use Rattle.py_tokens.proofs.literals.decode.Given as goal

-- what is decoded so far, and the rest, are the whole
abbrev pub invariant-loop-i : goal.invariant-loop-i
invariant-loop-i l = append_known (Some l.out.items) (decode l.bytes l.skip (drop l.i l.body)) ≡ decode l.bytes 0 l.body
