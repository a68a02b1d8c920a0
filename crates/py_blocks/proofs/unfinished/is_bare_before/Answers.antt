use Rattle.py_blocks.proofs.Tracing.{bare-told}
use Rattle.py_blocks.proofs.unfinished.is_bare_before.Goals as goal

pub returns-then-line : goal.returns-then-line
returns-then-line c = λ before own. bare-told before c.args.line c.args.behind.now c.is_handled.result c.requires.written own c.is_handled.ensures c.if-line.true
