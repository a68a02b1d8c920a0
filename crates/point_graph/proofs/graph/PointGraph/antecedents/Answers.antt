use Rattle.std.proofs.Common.{◌<◌, List, length, sym, subst}
use Rattle.py_base.specs.declared.ids.PointId.{PointId}
use Rattle.flow_rows.specs.Flow.{Has}
use Rattle.point_graph.specs.Graph.{Numbered}
use Rattle.point_graph.specs.Runs.{part}
use Rattle.point_graph.proofs.Whole.{part_at}
use Rattle.point_graph.proofs.graph.PointGraph.antecedents.Goals as goal

pub returns-in-Some-clause-within : goal.returns-in-Some-clause-within
returns-in-Some-clause-within c = λ id h.
    let run = c.in-Some.run'.now in
    let at = part_at c.self.inside.sources c.self.inside.runs c.args.point.0 run (sym c.in-Some.ensures.value) in
    let here : Has (part c.self.inside.sources run) id = subst (λ (l : List PointId). Has (part l run) id) c.as_slice-sources.ensures h in
    subst (λ (g : Numbered). id.0 < length g.points) c.self.view_is
    (c.self.invariant.0.sources c.args.point.0 (part c.self.inside.sources run) at id here)
