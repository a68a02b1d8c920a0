use Rattle.std.proofs.Common.{take}
use Rattle.std.specs.List.{flat_map}
use Rattle.node_references.specs.declared.imports.Imported.TheVariants as imports
use Rattle.node_references.specs.Casts.{bound_by}
use Rattle.node_references.proofs.CastMarking.{node_more}
use Rattle.node_references.proofs.imports.import_marks.Goals as goal

pub loop-place-preserved : goal.loop-place-preserved
loop-place-preserved c =
    let nodes = c.args.tree.now.nodes in
    let place = c.loop-place.place in
    record {
      typing = node_more (bound_by imports.Typing c.args.tree.now) nodes place c.node-node.result.now c.node_count-count.result c.mark_bound.new.marks c.node-node.ensures.value
          (c.mark_bound.ensures (flat_map (bound_by imports.Typing c.args.tree.now) (take place nodes)) c.node_count-count.result c.loop-place.invariant.typing);
      cast = node_more (bound_by imports.Cast c.args.tree.now) nodes place c.node-node.result.now c.node_count-count.result c.mark_bound-in-loop-place.new.marks c.node-node.ensures.value
          (c.mark_bound-in-loop-place.ensures (flat_map (bound_by imports.Cast c.args.tree.now) (take place nodes)) c.node_count-count.result c.loop-place.invariant.cast);
    }
