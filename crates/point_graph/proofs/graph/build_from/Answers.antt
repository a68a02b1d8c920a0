use Rattle.std.proofs.Common.{◌≡◌, refl, ℕ, ◌<◌, List, length, ◌∙◌, ap, map, subst}
use Rattle.smallvec.specs.SmallVec.{SmallVec}
use Rattle.flow_rows.specs.Flow.{IsEdge}
use Rattle.point_graph.specs.declared.incoming.Way.{Way}
use Rattle.point_graph.specs.declared.numbers.Step.{Step}
use Rattle.point_graph.specs.Numbers.{lists, list_at, into}
use Rattle.point_graph.specs.Runs.{parts}
use Rattle.point_graph.proofs.Steps.{steps_below, to_below}
use Rattle.point_graph.proofs.Whole.{draft_by, steps_whole, graph_whole, graph_closed}
use Rattle.point_graph.proofs.graph.build_from.Goals as goal

pub grouped-requires : goal.grouped-requires
grouped-requires c =
    let points = c.all_graphs.new.numbering.points.keys in
    let steps = c.add_starts.new.steps in
    rw (c.len.ensures.len, c.as_slice-2.ensures) (steps_below (length points) steps (to_below points (IsEdge c.args.forms.now c.args.ends) steps
    (steps_whole c.args.forms.now c.args.ends points c.all_graphs.new.numbering.homes c.all_graphs.new.steps steps c.in_ok-graphs.graphs
    (draft_by c.args.forms.now c.args.ends _ _ _ _ _ _ c.as_slice.ensures c.in_ok-graphs.ensures) c.in_ok-add_starts.ensures.steps)))

pub invariant_of-result : goal.invariant_of-result
invariant_of-result c = (
  graph_closed c.args.forms.now c.args.ends
      (record {
        points = c.all_graphs.new.numbering.points.keys;
        antecedents = parts c.in_ok-sources.field-0.sources c.in_ok-sources.field-0.runs;
        kinds = parts c.in_ok-sources.field-0.labels c.in_ok-sources.field-0.runs;
        graphs = c.in_ok-graphs.graphs;
        homes = c.all_graphs.new.numbering.homes;
        operands = c.in_ok-operands.operands;
        ends = c.args.ends;
      })
      c.all_graphs.new.steps c.add_starts.new.steps c.in_ok-ways.ways.items c.len.result
      (draft_by c.args.forms.now c.args.ends _ _ _ _ _ _ c.as_slice.ensures c.in_ok-graphs.ensures) c.in_ok-add_starts.ensures.steps c.in_ok-add_starts.ensures.listed c.len.ensures.len c.in_ok-ways.ensures.long
      (subst (λ (l : List Step). (j : ℕ) → j < c.len.result → list_at (lists c.in_ok-ways.ways.items) j ≡ into j l) c.as_slice-2.ensures c.in_ok-ways.ensures.ways)
      (c.in_ok-sources.ensures.sources ∙ ap (λ (l : List (SmallVec Way)). map (λ (ws : List Way). map (λ (w : Way). w.from) ws) (lists l)) c.as_slice-3.ensures.value)
      (c.in_ok-sources.ensures.labels ∙ ap (λ (l : List (SmallVec Way)). map (λ (ws : List Way). map (λ (w : Way). w.kind) ws) (lists l)) c.as_slice-3.ensures.value)
      c.in_ok-operands.ensures refl,
  c.in_ok-sources.ensures.within,
  c.in_ok-sources.ensures.long,
)

pub returns : goal.returns
returns c = graph_whole c.args.forms.now c.args.ends
    (record {
      points = c.all_graphs.new.numbering.points.keys;
      antecedents = parts c.in_ok-sources.field-0.sources c.in_ok-sources.field-0.runs;
      kinds = parts c.in_ok-sources.field-0.labels c.in_ok-sources.field-0.runs;
      graphs = c.in_ok-graphs.graphs;
      homes = c.all_graphs.new.numbering.homes;
      operands = c.in_ok-operands.operands;
      ends = c.args.ends;
    })
    c.all_graphs.new.steps c.add_starts.new.steps c.in_ok-ways.ways.items c.len.result
    (draft_by c.args.forms.now c.args.ends _ _ _ _ _ _ c.as_slice.ensures c.in_ok-graphs.ensures) c.in_ok-add_starts.ensures.steps c.in_ok-add_starts.ensures.listed c.len.ensures.len c.in_ok-ways.ensures.long
    (subst (λ (l : List Step). (j : ℕ) → j < c.len.result → list_at (lists c.in_ok-ways.ways.items) j ≡ into j l) c.as_slice-2.ensures c.in_ok-ways.ensures.ways)
    (c.in_ok-sources.ensures.sources ∙ ap (λ (l : List (SmallVec Way)). map (λ (ws : List Way). map (λ (w : Way). w.from) ws) (lists l)) c.as_slice-3.ensures.value)
    (c.in_ok-sources.ensures.labels ∙ ap (λ (l : List (SmallVec Way)). map (λ (ws : List Way). map (λ (w : Way). w.kind) ws) (lists l)) c.as_slice-3.ensures.value)
    c.in_ok-operands.ensures refl
