use Rattle.std.proofs.Common.{◌≡◌, ℕ, List, true, take}
use Rattle.py_blocks.specs.Facts.{among, are_distinct}
use Rattle.py_blocks.specs.NameLists.{has_text}
use Rattle.py_blocks.proofs.name_lists.are_distinct.Given as goal

-- the set has the names so far, and none of them stands twice
abbrev pub invariant-loop-name : goal.invariant-loop-name
invariant-loop-name l = ((n : List ℕ) → has_text l.before n ≡ among n (take l.name-index l.names)) × (are_distinct (take l.name-index l.names) ≡ true)
