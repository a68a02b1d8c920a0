use Rattle.std.proofs.Common.{◌≡◌, ℕ, None, slice_get, length}
use Rattle.node_references.specs.Numbers.{flat}
use Rattle.flow_graph.proofs.subjects.nothing.Given as goal

abbrev pub invariant-loop : goal.invariant-loop
invariant-loop l = record {
  long : length l.table ≡ l.counter;
  none : (j : ℕ) → flat (slice_get l.table j) ≡ None;
}
