use Rattle.std.proofs.Common.{◌≡◌, true, drop}
use Rattle.py_blocks.specs.Trails.{tried_from}
use Rattle.py_blocks.proofs.unfinished.is_tried.Given as goal

abbrev pub invariant-loop-line : goal.invariant-loop-line
invariant-loop-line l = tried_from l.trail l.column l.first (drop l.line-index l.behind) ≡ tried_from l.initial.trail l.column true l.behind
