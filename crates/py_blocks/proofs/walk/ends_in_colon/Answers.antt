use Rattle.std.proofs.Common.{length, ◌-◌, sym, ◌∙◌, arith}
use Rattle.py_base.specs.Tree.{trees}
use Rattle.py_blocks.proofs.Reading.{older-at}
use Rattle.py_blocks.proofs.Walking.{ends-last}
use Rattle.py_blocks.proofs.walk.ends_in_colon.Goals as goal

pub is_empty_suite-requires-clause-within : goal.is_empty_suite-requires-clause-within
is_empty_suite-requires-clause-within c =
    older-at (length c.args.tree.now.nodes) c.args.parts.now (length c.args.parts.now - 1) (record { 0 = 0 }) c.requires.within (omega arith)

pub returns-in-len1-up : goal.returns-in-len1-up
returns-in-len1-up c =
    c.is_empty_suite.ensures ∙ sym (ends-last (trees c.args.tree.now) c.args.parts.now (record { 0 = 0 }) (omega arith))
