use Rattle.std.proofs.Common.{◌∙◌}
use Rattle.py_blocks.specs.Facts.{among}
use Rattle.py_blocks.specs.NameLists.{has_text}
use Rattle.py_blocks.proofs.Repeats.{all-same}
use Rattle.py_blocks.proofs.name_lists.are_all_among.Goals as goal

pub returns : goal.returns
returns c = c.has_all.ensures ∙ all-same (has_text c.in_ok-set.set) (λ n. among n c.args.others.now) c.in_ok-set.ensures c.args.names.now
