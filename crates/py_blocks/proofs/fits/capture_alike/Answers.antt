use Rattle.std.proofs.Common.{◌∙◌, sym, length, arith}
use Rattle.py_base.specs.Tree.{trees}
use Rattle.py_blocks.proofs.Reading.{older-at}
use Rattle.py_blocks.proofs.Walking.{alike-bad, alike-next, alike-end}
use Rattle.py_blocks.proofs.fits.capture_alike.Goals as goal

pub captures_just-requires-clause-within : goal.captures_just-requires-clause-within
captures_just-requires-clause-within c = older-at (length c.args.tree.now.nodes) c.args.parts.now c.loop-part.part-index (record { 0 = 0 }) c.requires.within (omega arith)

pub loop-part-preserved : goal.loop-part-preserved
loop-part-preserved c = alike-next c.args.wanted.now (trees c.args.tree.now) c.args.parts.now c.loop-part.part-index (record { 0 = 0 }) (omega arith) c.loop-part.invariant (sym c.in_ok-alike.ensures ∙ c.if-not-alike.false)

pub returns-then-not-alike : goal.returns-then-not-alike
returns-then-not-alike c = sym (alike-bad c.args.wanted.now (trees c.args.tree.now) c.args.parts.now c.loop-part.part-index (record { 0 = 0 }) (omega arith) c.loop-part.invariant (sym c.in_ok-alike.ensures ∙ c.if-not-alike.true))

pub returns : goal.returns
returns c = sym (alike-end c.args.wanted.now (trees c.args.tree.now) c.args.parts.now c.loop-part.part-index (omega arith) c.loop-part.invariant)
