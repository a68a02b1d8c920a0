use Rattle.std.proofs.Common.{◌≡◌, drop}
use Rattle.py_blocks.specs.Trails.{cased_from}
use Rattle.py_blocks.proofs.unfinished.is_cased.Given as goal

abbrev pub invariant-loop-line : goal.invariant-loop-line
invariant-loop-line l = cased_from l.trail l.column (drop l.line-index l.behind) ≡ cased_from l.initial.trail l.column l.behind
