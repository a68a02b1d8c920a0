use Rattle.std.proofs.Common.{reverse, ◌∙◌, ap}
use Rattle.py_blocks.specs.Rules.{around}
use Rattle.py_blocks.specs.Settings.{is_astray_by}
use Rattle.py_blocks.proofs.Around.{around-same, astray-told}
use Rattle.py_blocks.proofs.Matching.{around-told}
use Rattle.py_blocks.proofs.settle.is_astray.Goals as goal

pub returns : goal.returns
returns c =
    c.is_astray_in.ensures ∙ ap (λ s. is_astray_by s c.args.line) (c.around_by.ensures ∙ around-told (reverse c.args.before.now) (reverse c.args.notes.now) c.args.line c.requires.notes c.requires.column ∙ around-same (reverse c.args.before.now) c.args.line.column) ∙ astray-told (around (reverse c.args.before.now) c.args.line.column) c.args.line
