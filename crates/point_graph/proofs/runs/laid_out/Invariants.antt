use Rattle.std.proofs.Common.{◌≡◌, List, length, map, take}
use Rattle.point_graph.specs.declared.incoming.Way.{Way}
use Rattle.point_graph.specs.Numbers.{lists}
use Rattle.point_graph.specs.Runs.{parts, AreRuns}
use Rattle.point_graph.proofs.runs.laid_out.Given as goal

abbrev pub invariant-loop-list : goal.invariant-loop-list
invariant-loop-list l = record {
  within : AreRuns (length l.sources) l.runs;
  long : length l.labels ≡ length l.sources;
  sources : parts l.sources l.runs ≡ map (λ (ws : List Way). map (λ (w : Way). w.from) ws) (lists (take l.list-index l.ways));
  labels : parts l.labels l.runs ≡ map (λ (ws : List Way). map (λ (w : Way). w.kind) ws) (lists (take l.list-index l.ways));
}
