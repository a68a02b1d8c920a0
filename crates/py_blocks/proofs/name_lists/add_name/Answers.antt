use Rattle.std.proofs.Common.{◌∙◌}
use Rattle.py_blocks.specs.NameLists.{has_text}
use Rattle.py_blocks.proofs.Repeats.{put-in}
use Rattle.py_blocks.proofs.name_lists.add_name.Goals as goal

pub returns-clause-kept : goal.returns-clause-kept
returns-clause-kept c = λ n.
    c.in_ok-added.ensures.updates.0 (record { ref_ptr = (0, 0); now = n }) ∙ put-in c.args.name.now n (has_text c.args.set.now n)
