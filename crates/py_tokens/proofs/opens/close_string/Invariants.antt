use Rattle.std.proofs.Common.{◌≡◌, length}
use Rattle.py_tokens.specs.Opens.{close_string}
use Rattle.py_tokens.proofs.opens.close_string.Given as goal

abbrev pub invariant-loop-top : goal.invariant-loop-top
invariant-loop-top l = close_string l.nests.items l.left ≡ close_string l.fn.nests.items l.fn.depth

abbrev pub decreases-loop-top : goal.decreases-loop-top
decreases-loop-top l = length l.nests.items
