use Rattle.std.proofs.Common.{◌≡◌, drop}
use Rattle.py_base.specs.Tree.{parts_at, trees}
use Rattle.py_blocks.specs.Facts.{defaults, are_ordered}
use Rattle.py_blocks.specs.Ordered.{ordered_after}
use Rattle.py_blocks.proofs.fits.are_ordered.Given as goal

abbrev pub invariant-loop-at : goal.invariant-loop-at
invariant-loop-at l = ordered_after l.seen (defaults l.lambda (parts_at (trees l.tree) (drop l.at l.parts))) ≡ are_ordered (defaults l.lambda (parts_at (trees l.tree) l.parts))
