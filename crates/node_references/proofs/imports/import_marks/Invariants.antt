use Rattle.std.proofs.Common.{take}
use Rattle.std.specs.List.{flat_map}
use Rattle.node_references.specs.declared.imports.Imported.TheVariants as imports
use Rattle.node_references.specs.Casts.{bound_by}
use Rattle.node_references.specs.Marks.{AreMarks}
use Rattle.node_references.proofs.imports.import_marks.Given as goal

abbrev pub invariant-loop-place : goal.invariant-loop-place
invariant-loop-place l = record {
  typing : AreMarks (flat_map (bound_by imports.Typing l.tree) (take l.place l.tree.nodes)) l.count l.typing;
  cast : AreMarks (flat_map (bound_by imports.Cast l.tree) (take l.place l.tree.nodes)) l.count l.cast;
}
