use Rattle.std.proofs.Common.{◌≡◌, length, reverse}
use Rattle.py_blocks.specs.Stages.{stage_at}
use Rattle.py_blocks.proofs.stage.stage_at.Given as goal

abbrev pub invariant-lines : goal.invariant-lines
invariant-lines l = stage_at (reverse l.rest) (reverse l.noted) l.column ≡ stage_at (reverse l.before) (reverse l.stages) l.column

abbrev pub decreases-lines : goal.decreases-lines
decreases-lines l = length l.rest
