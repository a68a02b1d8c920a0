use Rattle.std.proofs.Common.{◌≡◌, ◌++◌, drop, map}
use Rattle.py_blocks.specs.Faults.{standing}
use Rattle.py_blocks.proofs.nest.standing_lines.Given as goal

abbrev pub invariant-loop-line : goal.invariant-loop-line
invariant-loop-line l = l.all ++ map (standing l.lines) (drop l.line-index l.settled) ≡ map (standing l.lines) l.settled
