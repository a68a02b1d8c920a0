use Rattle.std.proofs.Common.{◌≡◌, length, reverse}
use Rattle.py_blocks.specs.Settings.{noted_at}
use Rattle.py_blocks.proofs.setting.noted_at.Given as goal

abbrev pub invariant-lines : goal.invariant-lines
invariant-lines l = noted_at (reverse l.rest) (reverse l.noted) l.column ≡ noted_at (reverse l.before) (reverse l.notes) l.column

abbrev pub decreases-lines : goal.decreases-lines
decreases-lines l = length l.rest
