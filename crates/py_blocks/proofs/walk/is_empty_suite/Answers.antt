use Rattle.std.proofs.Common.{◌≡◌, true, sym, ◌∙◌}
use Rattle.py_base.specs.Tree.{trees}
use Rattle.py_blocks.specs.Facts.{is_suite}
use Rattle.py_blocks.proofs.Walking.{none-zero}
use Rattle.py_blocks.proofs.walk.is_empty_suite.Goals as goal

pub returns-then-is_suite : goal.returns-then-is_suite
returns-then-is_suite c =
    let suite : is_suite c.node_of-node.result.now.kind ≡ true = sym c.is_suite.ensures ∙ c.if-is_suite.true in
    rw (c.node_of-node.ensures.tree, suite, c.is_empty.ensures, c.as_slice.ensures) (none-zero (trees c.args.tree.now) c.node_of-node.result.now.parts)
