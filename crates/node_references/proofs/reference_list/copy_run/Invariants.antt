use Rattle.std.proofs.Common.{◌≡◌, ◌≤◌, ◌++◌}
use Rattle.node_references.specs.Chains.{between}
use Rattle.node_references.proofs.reference_list.copy_run.Given as goal

abbrev pub invariant-loop-at : goal.invariant-loop-at
invariant-loop-at l = record {
  run : l.names ≡ l.initial.names ++ between l.from l.at l.initial.names;
  low : l.from ≤ l.at;
  high : l.at ≤ l.to;
}
