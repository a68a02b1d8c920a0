use Rattle.std.proofs.Common.{◌≡◌, ℕ, [], length}
use Rattle.point_graph.specs.Numbers.{lists, list_at}
use Rattle.point_graph.proofs.incoming.empties.Given as goal

abbrev pub invariant-loop : goal.invariant-loop
invariant-loop l = record {
  long : length l.ways.items ≡ l.counter;
  empty : (j : ℕ) → list_at (lists l.ways.items) j ≡ [];
}
