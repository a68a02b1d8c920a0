use Rattle.std.proofs.Common.{◌∙◌}
use Rattle.py_blocks.proofs.Owners.{own-parameters}
use Rattle.py_blocks.proofs.scopes.is_own_parameter.Goals as goal

pub returns : goal.returns
returns c = c.has_name.ensures ∙ (c.requires.parameters c.args.name.now c.args.def ∙ own-parameters c.args.lines.now c.args.name.now c.args.def)
