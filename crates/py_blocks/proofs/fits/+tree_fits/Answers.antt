use Rattle.std.proofs.Common.{◌<◌, ◌∙◌, sym, get_or, arith}
use Rattle.py_base.specs.Tree.{AreOlder, said, tree_of, trees, parts_at}
use Rattle.py_blocks.proofs.Reading.{older-at}
use Rattle.py_blocks.proofs.Walking.{fits-bad, fits-next, fits-end, fits-node, fits-own}
use Rattle.py_blocks.proofs.fits.+tree_fits.Goals as goal

pub tree_fits-requires : goal.tree_fits-requires
tree_fits-requires t c =
    let ids = c.as_slice-parts.result.now in
    let older : AreOlder c.args.id.0 ids = rw c.as_slice-parts.ensures c.node_of-node.ensures.older in
    let below : (get_or ids c.loop-part.part-index (record { 0 = 0 })).0 < c.args.id.0 = older-at c.args.id.0 ids c.loop-part.part-index (record { 0 = 0 }) older (omega arith) in
    (omega (arith, c.decreases), (c.requires.linked, omega (arith, c.requires.within)))

pub loop-part-preserved : goal.loop-part-preserved
loop-part-preserved t c =
    fits-next (trees c.args.tree.now) c.as_slice-parts.result.now c.loop-part.part-index (record { 0 = 0 }) (omega arith) c.loop-part.invariant (sym c.in_ok-fits-2.ensures ∙ c.if-not-fits-2.false)

pub returns-then-not-fits : goal.returns-then-not-fits
returns-then-not-fits t c = sym (fits-own (tree_of c.args.tree.now c.args.id) (sym c.in_ok-fits.ensures ∙ c.if-not-fits.true))

pub returns-then-not-fits-2 : goal.returns-then-not-fits-2
returns-then-not-fits-2 t c =
    let n = c.node_of-node.result.now in
    let a = c.args.tree.now in
    let ids = c.as_slice-parts.result.now in
    sym (fits-node n.kind n.span (said a.names n.word) (parts_at (trees a) ids) _ _ (rw (← c.as_slice-parts.ensures) at c.node_of-node.ensures.tree) (sym c.in_ok-fits.ensures ∙ c.if-not-fits.false) (fits-bad (trees a) ids c.loop-part.part-index (record { 0 = 0 }) (omega arith) c.loop-part.invariant (sym c.in_ok-fits-2.ensures ∙ c.if-not-fits-2.true)))

pub returns : goal.returns
returns t c =
    let n = c.node_of-node.result.now in
    let a = c.args.tree.now in
    let ids = c.as_slice-parts.result.now in
    sym (fits-node n.kind n.span (said a.names n.word) (parts_at (trees a) ids) _ _ (rw (← c.as_slice-parts.ensures) at c.node_of-node.ensures.tree) (sym c.in_ok-fits.ensures ∙ c.if-not-fits.false) (fits-end (trees a) ids c.loop-part.part-index (omega arith) c.loop-part.invariant))
