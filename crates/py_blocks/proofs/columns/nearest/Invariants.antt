use Rattle.std.proofs.Common.{◌≡◌, length, reverse}
use Rattle.py_blocks.specs.Lines.{nearest}
use Rattle.py_blocks.specs.Passing.{Aligned}
use Rattle.py_blocks.proofs.columns.nearest.Given as goal

abbrev pub invariant-lines : goal.invariant-lines
invariant-lines l = (nearest (reverse l.rest) l.column ≡ nearest (reverse l.before) l.column) × Aligned (reverse l.rest)

abbrev pub decreases-lines : goal.decreases-lines
decreases-lines l = length l.rest
