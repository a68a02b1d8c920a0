use Rattle.py_blocks.specs.Faults.{rows_of}
use Rattle.py_stmts.proofs.Answer.{AreLines-of, over-of}
use Rattle.py_stmts.proofs.texts.tree_as_read.Goals as goal

pub put_together-requires-clause-lines : goal.put_together-requires-clause-lines
put_together-requires-clause-lines c = AreLines-of c.args.read c.args.lines.now c.args.nesting.now c.args.rows.now c.requires.standing

pub returns : goal.returns
returns c =
    over-of c.args.lines.now c.args.nesting.now (rows_of c.args.read c.args.rows.now) c.put_together.new.tree c.requires.standing c.in_ok-put_together.ensures.module c.in_ok-put_together.ensures.whole
