use Rattle.std.proofs.Common.{◌≡◌, drop}
use Rattle.py_base.specs.Tree.{parts_at, trees}
use Rattle.py_blocks.specs.Facts.{capture_alike}
use Rattle.py_blocks.proofs.fits.capture_alike.Given as goal

abbrev pub invariant-loop-part : goal.invariant-loop-part
invariant-loop-part l = capture_alike l.wanted (parts_at (trees l.tree) (drop l.part-index l.parts)) ≡ capture_alike l.wanted (parts_at (trees l.tree) l.parts)
