use Rattle.std.proofs.Common.{◌<◌, ◌∙◌, get_or, arith}
use Rattle.py_base.specs.Tree.{AreOlder, said, trees}
use Rattle.py_blocks.proofs.Reading.{older-at}
use Rattle.py_blocks.proofs.Walking.{names-first, names-next, names-end}
use Rattle.py_blocks.proofs.names.+add_names.Goals as goal

pub loop-at-init : goal.loop-at-init
loop-at-init t c =
    let n = c.node_of-node.result.now in
    names-first c.args.role n.kind n.span (said c.args.tree.now.names n.word) (trees c.args.tree.now) c.as_slice-parts.result.now _ c.args.names.now c.add_own.new.names (rw (← c.as_slice-parts.ensures) at c.node_of-node.ensures.tree) c.in_ok-add_own.ensures

pub add_names-requires : goal.add_names-requires
add_names-requires t c =
    let ids = c.as_slice-parts.result.now in
    let older : AreOlder c.args.id.0 ids = rw c.as_slice-parts.ensures c.node_of-node.ensures.older in
    let below : (get_or ids c.loop-at.at (record { 0 = 0 })).0 < c.args.id.0 = older-at c.args.id.0 ids c.loop-at.at (record { 0 = 0 }) older (omega arith) in
    (omega (arith, c.decreases), (c.requires.linked, omega (arith, c.requires.within)))

pub loop-at-preserved : goal.loop-at-preserved
loop-at-preserved t c =
    names-next c.args.role c.node_of-node.result.now.kind (trees c.args.tree.now) c.as_slice-parts.result.now c.loop-at.at (record { 0 = 0 }) c.loop-at.names c.add_names.new.names (omega arith) (rw c.role_of_part-place.ensures at c.in_ok-add_names.ensures) ∙ c.loop-at.invariant

pub returns : goal.returns
returns t c =
    names-end c.args.role c.node_of-node.result.now.kind (trees c.args.tree.now) c.as_slice-parts.result.now c.loop-at.at c.loop-at.names _ (omega arith) c.loop-at.invariant
