use Rattle.std.proofs.Common.{◌≡◌, reverse, take}
use Rattle.py_blocks.specs.Stages.{stages_of}
use Rattle.py_blocks.proofs.settle.add_stages.Given as goal

abbrev pub invariant-loop-at : goal.invariant-loop-at
invariant-loop-at l = reverse l.stages.items ≡ stages_of (reverse (take l.at l.standing))
