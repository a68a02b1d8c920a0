use Rattle.py_blocks.specs.Faults.{rows_of}
use Rattle.py_stmts.proofs.Answer.{rows-stand, module-of}
use Rattle.py_stmts.proofs.texts.blocks.Goals as goal

pub tree_as_read-requires-clause-standing : goal.tree_as_read-requires-clause-standing
tree_as_read-requires-clause-standing c =
    let nested = rw c.as_slice.ensures at c.in_ok-nested.ensures in
    let free = rw (c.has_faults.ensures, c.as_slice-3.ensures) at c.if-has_faults.false in
    rw (c.as_slice-4.ensures, c.as_slice-5.ensures) (rows-stand c.as_slice-lines.result.now (rows_of c.block_lines.new.tree c.in_ok-rows.rows) c.in_ok-nested.nested c.faultless_nesting.ensures nested free c.in_ok-rows.ensures.rows)

pub returns-then-has_faults : goal.returns-then-has_faults
returns-then-has_faults c =
    let rows = rw c.as_slice-lines.ensures at c.in_ok-rows.ensures.rows in
    let nested = rw c.as_slice.ensures at c.in_ok-nested.ensures in
    let faults = rw (c.as_slice-lines.ensures, c.as_slice-2.ensures) at c.in_ok-faults.ensures in
    let over = rw (c.as_slice-lines.ensures, c.as_slice-then-has_faults.ensures) at c.in_ok-tree.ensures in
    module-of c.args.cut.now.lines (rows_of c.block_lines.new.tree c.in_ok-rows.rows) c.in_ok-nested.nested _ rows nested faults over

pub returns : goal.returns
returns c =
    let rows = rw c.as_slice-lines.ensures at c.in_ok-rows.ensures.rows in
    let nested = rw c.as_slice.ensures at c.in_ok-nested.ensures in
    let faults = rw (c.as_slice-lines.ensures, c.as_slice-2.ensures) at c.in_ok-faults.ensures in
    let over = rw (c.as_slice-lines.ensures, c.as_slice-4.ensures) at c.in_ok-tree-2.ensures in
    module-of c.args.cut.now.lines (rows_of c.block_lines.new.tree c.in_ok-rows.rows) c.in_ok-nested.nested _ rows nested faults over
