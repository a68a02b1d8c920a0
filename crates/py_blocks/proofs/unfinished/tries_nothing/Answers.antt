use Rattle.std.proofs.Common.{sym, ◌∙◌}
use Rattle.py_blocks.proofs.Tracing.{tries-told}
use Rattle.py_blocks.proofs.unfinished.tries_nothing.Goals as goal

pub returns-then-is_try : goal.returns-then-is_try
returns-then-is_try c = λ before own. tries-told before c.args.line c.args.behind.now c.is_tried.result own (sym c.is_try.ensures ∙ c.if-is_try.true) c.is_tried.ensures
