use Rattle.py_blocks.specs.Faults.{rows_of}
use Rattle.py_stmts.proofs.Answer.{AreLines-of, over-of}
use Rattle.py_stmts.proofs.texts.tree_over.Goals as goal

pub put_together-requires-clause-lines : goal.put_together-requires-clause-lines
put_together-requires-clause-lines c =
    rw c.as_slice.ensures (AreLines-of c.standing_lines.new.tree c.args.lines.now c.args.nesting.now c.in_ok-standing.standing c.in_ok-standing.ensures.rows)

pub returns : goal.returns
returns c =
    let held = rw c.as_slice.ensures at c.in_ok-put_together.ensures.module in
    over-of c.args.lines.now c.args.nesting.now (rows_of c.standing_lines.new.tree c.in_ok-standing.standing) c.put_together.new.tree c.in_ok-standing.ensures.rows held c.in_ok-put_together.ensures.whole
