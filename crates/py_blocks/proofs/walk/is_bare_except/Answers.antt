use Rattle.std.proofs.Common.{◌≡◌, true, sym, ◌∙◌}
use Rattle.py_base.specs.Tree.{trees}
use Rattle.py_blocks.specs.Facts.{is_bare}
use Rattle.py_blocks.proofs.Walking.{lone-one}
use Rattle.py_blocks.proofs.walk.is_bare_except.Goals as goal

pub returns-then-is_bare : goal.returns-then-is_bare
returns-then-is_bare c =
    let bare : is_bare c.node_of-node.result.now.kind ≡ true = sym c.is_bare.ensures ∙ c.if-is_bare.true in
    rw (c.node_of-node.ensures.tree, bare, c.len.ensures) (lone-one (trees c.args.tree.now) c.node_of-node.result.now.parts)
