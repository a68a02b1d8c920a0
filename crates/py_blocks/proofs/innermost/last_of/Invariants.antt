use Rattle.std.proofs.Common.{◌≡◌, take}
use Rattle.py_blocks.specs.Innermost.{last_of}
use Rattle.py_blocks.proofs.innermost.last_of.Given as goal

abbrev pub invariant-loop-block : goal.invariant-loop-block
invariant-loop-block l = l.found ≡ last_of l.lines l.sort (take l.block-index l.blocks)
