use Rattle.std.proofs.Common.{◌≡◌, length}
use Rattle.py_tokens.specs.BlockStack.{dedent}
use Rattle.py_tokens.proofs.blocks.dedent.Given as goal

abbrev pub invariant-loop-blocks : goal.invariant-loop-blocks
invariant-loop-blocks l = dedent l.blocks.items l.column ≡ dedent l.fn.blocks.items l.column

abbrev pub decreases-loop-blocks : goal.decreases-loop-blocks
decreases-loop-blocks l = length l.blocks.items
