use Rattle.std.proofs.Common.{◌∙◌, ◌++◌, List, ap, subst}
use Rattle.std.specs.List.{flat_map}
use Rattle.py_base.specs.declared.ids.NodeId.{NodeId}
use Rattle.node_references.specs.Casts.{items, bound_by_item}
use Rattle.node_references.specs.Marks.{AreMarks}
use Rattle.node_references.proofs.imports.mark_bound.Goals as goal

pub returns : goal.returns
returns c = λ nodes count h. subst (λ (l : List NodeId). AreMarks (nodes ++ flat_map (bound_by_item c.args.imported c.args.tree.now) l) count c.mark_items.new.marks)
    (c.items-items.ensures ∙ ap (items c.args.imported c.args.tree.now c.args.node.now.kind) c.as_slice.ensures)
    (c.mark_items.ensures nodes count h)
