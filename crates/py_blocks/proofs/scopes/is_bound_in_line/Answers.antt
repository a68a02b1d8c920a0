use Rattle.std.proofs.Common.{◌∙◌}
use Rattle.py_blocks.proofs.Owners.{own-suite}
use Rattle.py_blocks.proofs.scopes.is_bound_in_line.Goals as goal

pub returns : goal.returns
returns c = c.has_name.ensures ∙ (c.requires.suites c.args.name.now c.args.def ∙ own-suite c.args.lines.now c.args.name.now c.args.def)
