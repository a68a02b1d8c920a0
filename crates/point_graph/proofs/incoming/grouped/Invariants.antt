use Rattle.std.proofs.Common.{◌≡◌, ℕ, ◌<◌, ◌++◌, length, drop}
use Rattle.point_graph.specs.Numbers.{lists, list_at, into, AreBelow}
use Rattle.point_graph.proofs.incoming.grouped.Given as goal

abbrev pub invariant-loop-step : goal.invariant-loop-step
invariant-loop-step l = record {
  long : length l.ways.items ≡ l.count;
  below : AreBelow l.count (drop l.step-index l.steps);
  done : (j : ℕ) → j < l.count → list_at (lists l.ways.items) j ++ into j (drop l.step-index l.steps) ≡ into j l.steps;
}
