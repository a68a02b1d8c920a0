use Rattle.std.proofs.Common.{◌++◌, take}
use Rattle.std.specs.List.{flat_map}
use Rattle.node_references.specs.Casts.{bound_by_item}
use Rattle.node_references.proofs.CastMarking.{item_more, items_all}
use Rattle.node_references.proofs.imports.mark_items.Goals as goal

pub loop-item-preserved : goal.loop-item-preserved
loop-item-preserved c = λ nodes count h. item_more (bound_by_item c.args.imported c.args.tree.now) c.args.items.now c.loop-item.item-index nodes count c.mark_item.new.marks
    c.loop-item-test.true
    (c.mark_item.ensures (nodes ++ flat_map (bound_by_item c.args.imported c.args.tree.now) (take c.loop-item.item-index c.args.items.now)) count
    (c.loop-item.invariant nodes count h))

pub returns : goal.returns
returns c = λ nodes count h. items_all (bound_by_item c.args.imported c.args.tree.now) c.args.items.now c.loop-item.item-index nodes count c.loop-item.marks
    c.loop-item-test.false (c.loop-item.invariant nodes count h)
