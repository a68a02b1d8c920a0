use Rattle.std.proofs.Common.{◌≡◌, ◌+◌, ◌-◌, ◌^◌, ◌≤◌, min, drop}
use Rattle.flow_graph.specs.Table.{sizes}
use Rattle.flow_graph.proofs.graphs.size.Given as goal

abbrev pub invariant-loop-place : goal.invariant-loop-place
invariant-loop-place l = record {
  sum : min (l.size + sizes l.graph l.place (drop l.place l.graphs)) (2 ^ 64 - 1) ≡ min (sizes l.graph 0 l.graphs) (2 ^ 64 - 1);
  fits : l.size ≤ 2 ^ 64 - 1;
}
