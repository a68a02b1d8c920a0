use Rattle.std.proofs.Common.{ℕ, List, ◌++◌, take}
use Rattle.std.specs.List.{flat_map}
use Rattle.py_base.specs.declared.ids.NodeId.{NodeId}
use Rattle.node_references.specs.Casts.{bound_by_item}
use Rattle.node_references.specs.Marks.{AreMarks}
use Rattle.node_references.proofs.imports.mark_items.Given as goal

abbrev pub invariant-loop-item : goal.invariant-loop-item
invariant-loop-item l = (nodes : List NodeId) (count : ℕ) → AreMarks nodes count l.initial.marks
    → AreMarks (nodes ++ flat_map (bound_by_item l.imported l.tree) (take l.item-index l.items)) count l.marks
