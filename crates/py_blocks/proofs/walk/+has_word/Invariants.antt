use Rattle.std.proofs.Common.{◌≡◌, drop}
use Rattle.py_base.specs.Tree.{parts_at, trees}
use Rattle.py_blocks.specs.Facts.{have}
use Rattle.py_blocks.proofs.walk.+has_word.Given as goal

abbrev pub decreases-has_word : goal.decreases-has_word
decreases-has_word l = l.id.0

abbrev pub invariant-loop-part : goal.invariant-loop-part
invariant-loop-part l = have l.word (parts_at (trees l.tree) (drop l.part-index l.parts)) ≡ have l.word (parts_at (trees l.tree) l.parts)
