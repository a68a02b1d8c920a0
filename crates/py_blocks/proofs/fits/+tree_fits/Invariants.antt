use Rattle.std.proofs.Common.{◌≡◌, drop}
use Rattle.py_base.specs.Tree.{parts_at, trees}
use Rattle.py_blocks.specs.Facts.{trees_fit}
use Rattle.py_blocks.proofs.fits.+tree_fits.Given as goal

abbrev pub decreases-tree_fits : goal.decreases-tree_fits
decreases-tree_fits l = l.id.0

abbrev pub invariant-loop-part : goal.invariant-loop-part
invariant-loop-part l = trees_fit (parts_at (trees l.tree) (drop l.part-index l.parts)) ≡ trees_fit (parts_at (trees l.tree) l.parts)
