use Rattle.std.proofs.Common.{◌≡◌, ◌++◌, drop, map}
use Rattle.point_graph.specs.declared.incoming.Way.{Way}
use Rattle.point_graph.proofs.runs.add_ways.Given as goal

abbrev pub invariant-loop-way : goal.invariant-loop-way
invariant-loop-way l = record {
  sources : l.sources ++ map (λ (w : Way). w.from) (drop l.way-index l.ways) ≡ l.initial.sources ++ map (λ (w : Way). w.from) l.ways;
  labels : l.labels ++ map (λ (w : Way). w.kind) (drop l.way-index l.ways) ≡ l.initial.labels ++ map (λ (w : Way). w.kind) l.ways;
}
