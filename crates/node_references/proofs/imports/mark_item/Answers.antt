use Rattle.std.proofs.Common.{◌∙◌, ◌++◌, List, sym, subst}
use Rattle.py_base.specs.declared.ids.NodeId.{NodeId}
use Rattle.node_references.specs.Marks.{AreMarks}
use Rattle.node_references.proofs.CastMarking.{item_bound}
use Rattle.node_references.proofs.imports.mark_item.Goals as goal

pub returns-then-is_name_of : goal.returns-then-is_name_of
returns-then-is_name_of c = λ nodes count h. subst (λ (l : List NodeId). AreMarks (nodes ++ l) count c.mark.new.marks)
    (sym (item_bound c.args.imported c.args.tree.now c.args.node c.item_at-item.result c.item_at-item.ensures (sym c.is_name_of.ensures ∙ c.if-is_name_of.true)))
    (c.mark.ensures nodes count h)
