use Rattle.std.proofs.Common.{not, reverse, ◌∙◌, ap}
use Rattle.py_blocks.specs.Stages.{takes}
use Rattle.py_blocks.proofs.Staging.{takes-right}
use Rattle.py_blocks.proofs.settle.is_clause_astray.Goals as goal

pub returns : goal.returns
returns c =
    ap not (c.takes.ensures ∙ ap (λ s. takes s c.args.line.kind) c.stage_at.ensures ∙ takes-right c.args.line.kind (reverse c.args.before.now) (reverse c.args.stages.now) c.args.line.column c.requires.stages)
