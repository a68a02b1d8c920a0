use Rattle.std.proofs.Common.{length}
use Rattle.py_stmts.proofs.Answer.{holds}
use Rattle.py_stmts.proofs.ReadLines.{roots-older}
use Rattle.py_stmts.proofs.texts.put_together.Goals as goal

pub module_tree-requires : goal.module_tree-requires
module_tree-requires c =
    let lines = c.in_ok-lines.ensures in
    rw (c.as_slice.ensures, lines) (roots-older (length c.args.tree.now.nodes) c.args.rows.now c.requires.within)

pub returns-clause-module : goal.returns-clause-module
returns-clause-module c =
    let found = rw (c.as_slice.ensures, c.in_ok-lines.ensures) at c.in_ok-module_tree.ensures.found in
    holds c.args.tree.now c.module_tree.new.tree c.args.rows.now c.in_ok-module_tree.field-0 c.requires.lines c.in_ok-module_tree.ensures.newest found

pub returns-clause-whole : goal.returns-clause-whole
returns-clause-whole c =
    let once = rw (c.as_slice.ensures, c.in_ok-lines.ensures) at c.in_ok-module_tree.ensures.once in
    once c.requires.once
