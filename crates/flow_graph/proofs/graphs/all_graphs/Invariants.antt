use Rattle.std.proofs.Common.{◌≡◌, ℕ, List, Some, slice_get, length}
use Rattle.py_base.specs.declared.ids.RefId.{RefId}
use Rattle.point_graph.specs.Graph.{points_or}
use Rattle.flow_graph.specs.Table.{AreOccurring}
use Rattle.flow_graph.proofs.graphs.all_graphs.Given as goal

abbrev pub invariant-loop-place : goal.invariant-loop-place
invariant-loop-place l = record {
  count : length l.graphs ≡ l.place;
  graphs : (n : ℕ) (refs : List RefId) → slice_get l.graphs n ≡ Some refs
      → AreOccurring l.graph.points l.reads l.bindings (points_or (slice_get l.graph.graphs n)) refs;
}
