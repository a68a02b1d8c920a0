use Rattle.std.proofs.Common.{◌≡◌, drop}
use Rattle.py_blocks.specs.Trails.{handled_from}
use Rattle.py_blocks.proofs.unfinished.is_handled.Given as goal

abbrev pub invariant-loop-line : goal.invariant-loop-line
invariant-loop-line l = handled_from l.trail l.column (drop l.line-index l.behind) ≡ handled_from l.initial.trail l.column l.behind
