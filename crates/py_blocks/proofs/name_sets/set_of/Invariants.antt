use Rattle.std.proofs.Common.{◌≡◌, ℕ, List}
use Rattle.py_blocks.specs.Search.{some_below}
use Rattle.py_blocks.specs.NameSets.{holds, gives}
use Rattle.py_blocks.proofs.name_sets.set_of.Given as goal

abbrev pub invariant-loop-at : goal.invariant-loop-at
invariant-loop-at l = (n : List ℕ) (d : ℕ) → holds l.set n d ≡ some_below l.at (gives l.lines l.naming n d)
