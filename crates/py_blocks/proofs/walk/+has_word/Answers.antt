use Rattle.std.proofs.Common.{◌<◌, ◌∙◌, sym, get_or, arith}
use Rattle.py_base.specs.Tree.{AreOlder, said, trees}
use Rattle.py_blocks.proofs.Reading.{older-at}
use Rattle.py_blocks.proofs.Walking.{has-found, has-next, has-none}
use Rattle.py_blocks.proofs.walk.+has_word.Goals as goal

pub has_word-requires : goal.has_word-requires
has_word-requires t c =
    let ids = c.as_slice-parts.result.now in
    let older : AreOlder c.args.id.0 ids = rw c.as_slice-parts.ensures c.node_of-node.ensures.older in
    let below : (get_or ids c.loop-part.part-index (record { 0 = 0 })).0 < c.args.id.0 = older-at c.args.id.0 ids c.loop-part.part-index (record { 0 = 0 }) older (omega arith) in
    (omega (arith, c.decreases), (c.requires.linked, omega (arith, c.requires.within)))

pub loop-part-preserved : goal.loop-part-preserved
loop-part-preserved t c =
    has-next c.args.word (trees c.args.tree.now) c.as_slice-parts.result.now c.loop-part.part-index (record { 0 = 0 }) (omega arith) c.loop-part.invariant (sym c.has_word.ensures ∙ c.if-has_word.false)

pub returns-then-has_word : goal.returns-then-has_word
returns-then-has_word t c =
    let n = c.node_of-node.result.now in
    rw (c.node_of-node.ensures.tree, ← c.as_slice-parts.ensures) (sym (has-found c.args.word n.kind n.span (said c.args.tree.now.names n.word) (trees c.args.tree.now) c.as_slice-parts.result.now c.loop-part.part-index (record { 0 = 0 }) (omega arith) c.loop-part.invariant (sym c.is_word.ensures ∙ c.if-is_word.false) (sym c.has_word.ensures ∙ c.if-has_word.true)))

pub returns : goal.returns
returns t c =
    let n = c.node_of-node.result.now in
    rw (c.node_of-node.ensures.tree, ← c.as_slice-parts.ensures) (sym (has-none c.args.word n.kind n.span (said c.args.tree.now.names n.word) (trees c.args.tree.now) c.as_slice-parts.result.now c.loop-part.part-index (omega arith) c.loop-part.invariant (sym c.is_word.ensures ∙ c.if-is_word.false)))
