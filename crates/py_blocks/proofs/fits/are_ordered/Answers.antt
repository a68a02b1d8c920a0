use Rattle.std.proofs.Common.{◌+◌, length, drop, sym, ap, ◌∙◌, arith}
use Rattle.py_base.specs.Tree.{said, trees, parts_at}
use Rattle.py_blocks.specs.Facts.{defaults, default_of}
use Rattle.py_blocks.specs.Ordered.{ordered_after}
use Rattle.py_blocks.proofs.Reading.{older-at, parts_at-end}
use Rattle.py_blocks.proofs.Walking.{ordered-stop, ordered-next, ordered-bad, defaults-stop, defaults-more}
use Rattle.py_blocks.proofs.fits.are_ordered.Goals as goal

pub node_of-node-requires-clause-within : goal.node_of-node-requires-clause-within
node_of-node-requires-clause-within c = older-at (length c.args.tree.now.nodes) c.args.parts.now c.loop-at.at (record { 0 = 0 }) c.requires.within (omega arith)

pub returns-then-stops : goal.returns-then-stops
returns-then-stops c =
    let n = c.node_of-node.result.now in
    let a = c.args.tree.now in
    let stop = defaults-stop c.args.lambda n.kind n.span (said a.names n.word) (parts_at (trees a) n.parts) (trees a) c.args.parts.now c.loop-at.at (record { 0 = 0 }) (omega arith) c.node_of-node.ensures.tree (sym c.does_stop-stops.ensures ∙ c.if-stops.true) in
    sym (sym c.loop-at.invariant ∙ (ap (ordered_after c.loop-at.seen) stop ∙ ordered-stop c.loop-at.seen))

pub returns-in-None : goal.returns-in-None
returns-in-None c =
    let n = c.node_of-node.result.now in
    let a = c.args.tree.now in
    let rest = defaults c.args.lambda (parts_at (trees a) (drop (c.loop-at.at + 1) c.args.parts.now)) in
    let more = defaults-more c.args.lambda n.kind n.span (said a.names n.word) (parts_at (trees a) n.parts) (trees a) c.args.parts.now c.loop-at.at (record { 0 = 0 }) (omega arith) c.node_of-node.ensures.tree (sym c.does_stop-stops.ensures ∙ c.if-stops.false) in
    let told = rw c.as_slice.ensures at (c.default_of-default.ensures (trees a)) in
    let after = rw told at c.in-None.ensures in
    sym (sym c.loop-at.invariant ∙ (ap (ordered_after c.loop-at.seen) more ∙ ordered-bad c.loop-at.seen (default_of n.kind (parts_at (trees a) n.parts)) rest (sym after)))

pub loop-at-preserved : goal.loop-at-preserved
loop-at-preserved c =
    let n = c.node_of-node.result.now in
    let a = c.args.tree.now in
    let rest = defaults c.args.lambda (parts_at (trees a) (drop (c.loop-at.at + 1) c.args.parts.now)) in
    let more = defaults-more c.args.lambda n.kind n.span (said a.names n.word) (parts_at (trees a) n.parts) (trees a) c.args.parts.now c.loop-at.at (record { 0 = 0 }) (omega arith) c.node_of-node.ensures.tree (sym c.does_stop-stops.ensures ∙ c.if-stops.false) in
    let told = rw c.as_slice.ensures at (c.default_of-default.ensures (trees a)) in
    let after = rw told at c.in-Some.ensures in
    sym (ap (ordered_after c.loop-at.seen) more ∙ ordered-next c.loop-at.seen c.in-Some.after (default_of n.kind (parts_at (trees a) n.parts)) rest (sym after)) ∙ c.loop-at.invariant

pub returns : goal.returns
returns c =
    let a = c.args.tree.now in
    sym (sym c.loop-at.invariant ∙ (ap (λ us. ordered_after c.loop-at.seen (defaults c.args.lambda us)) (parts_at-end (trees a) c.args.parts.now c.loop-at.at (omega arith)) ∙ ordered-stop c.loop-at.seen))
