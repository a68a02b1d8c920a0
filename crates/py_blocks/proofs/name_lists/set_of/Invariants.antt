use Rattle.std.proofs.Common.{◌≡◌, ℕ, List, take}
use Rattle.py_blocks.specs.Facts.{among}
use Rattle.py_blocks.specs.NameLists.{has_text}
use Rattle.py_blocks.proofs.name_lists.set_of.Given as goal

abbrev pub invariant-loop-name : goal.invariant-loop-name
invariant-loop-name l = (n : List ℕ) → has_text l.set n ≡ among n (take l.name-index l.names)
