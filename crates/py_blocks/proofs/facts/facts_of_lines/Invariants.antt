use Rattle.std.proofs.Common.{◌≡◌, ◌++◌, drop, map}
use Rattle.py_blocks.specs.Facts.{facts_of}
use Rattle.py_blocks.specs.Faults.{rows_of}
use Rattle.py_blocks.proofs.facts.facts_of_lines.Given as goal

abbrev pub invariant-loop-line : goal.invariant-loop-line
invariant-loop-line l = l.facts ++ map facts_of (rows_of l.tree (drop l.line-index l.lines)) ≡ map facts_of (rows_of l.tree l.lines)
