use Rattle.std.proofs.Common.{◌≡◌, ℕ, List, ◌==◌, ◌&&◌, ◌||◌, take}
use Rattle.py_blocks.specs.Facts.{among}
use Rattle.py_blocks.specs.NameSets.{holds}
use Rattle.py_blocks.proofs.name_sets.add_names.Given as goal

abbrev pub invariant-loop-name : goal.invariant-loop-name
invariant-loop-name l = (n : List ℕ) (d : ℕ) → holds l.set n d ≡ (holds l.fn.set n d || (l.scope == d && among n (take l.name-index l.names)))
