use Rattle.std.proofs.Common.{◌≡◌, List, [], ◌∷◌, Some, subst, ap, ◌∙◌}
use Rattle.py_base.specs.declared.ids.GraphId.{GraphId}
use Rattle.py_base.specs.declared.ids.PointId.{PointId}
use Rattle.flow_rows.specs.declared.edge.Edge.{Edge}
use Rattle.flow_rows.specs.declared.point.Point.{Point}
use Rattle.flow_rows.specs.Points.{start}
use Rattle.flow_rows.specs.Flow.{Has, end_point}
use Rattle.std.specs.List.{flat_map}
use Rattle.flow_rows.specs.Edges.{both_ends}
use Rattle.point_graph.specs.Building.{Enters, Joins, AreMore, Comes, Continues}
use Rattle.point_graph.proofs.Drafts.{graph_made}
use Rattle.point_graph.proofs.members.add_graph.Goals as goal

pub returns : goal.returns
returns c =
    let graph : GraphId = record { 0 = c.args.root.0 } in
    let end = end_point c.args.forms.now c.args.ends.now c.args.root in
    let points = c.args.numbering.now.points.keys in
    let points_1 = c.enter.new.numbering.points.keys in
    let points_2 = c.enter-2.new.numbering.points.keys in
    let points_3 = c.enter_edges.new.numbering.points.keys in
    let homes = c.args.numbering.now.homes in
    let homes_1 = c.enter.new.numbering.homes in
    let homes_2 = c.enter-2.new.numbering.homes in
    let homes_3 = c.enter_edges.new.numbering.homes in
    let list_1 = c.enter.new.list in
    let list_2 = c.enter-2.new.list in
    let list_3 = c.enter_edges.new.list in
    let begun : Enters graph (λ p. start c.args.root ≡ p) points points_1 homes homes_1 c.new-points.result list_1
    = subst (λ (s : Point). Enters graph (λ p. s ≡ p) points points_1 homes homes_1 c.new-points.result list_1) c.start.ensures c.in_ok-_start.ensures.enters in
    graph_made c.args.forms.now c.args.ends.now c.args.root c.in_ok-edges.edges
    points points_1 points_2 points_3 homes homes_1 homes_2 homes_3 list_1 list_2 list_3
    c.args.steps.now c.enter_edges.new.steps c.in_ok-end.end
    c.in_ok-edges.ensures.exact
    (subst (λ (l : List PointId). Enters graph (λ p. start c.args.root ≡ p) points points_1 homes homes_1 l list_1) c.new-points.ensures begun)
    (subst (λ (s : Point). Enters graph (λ p. s ≡ p) points_1 points_2 homes_1 homes_2 list_1 list_2) c.end_of_graph-last.ensures c.in_ok-end.ensures.enters)
    (c.in_ok-end.ensures.at ∙ ap Some c.end_of_graph-last.ensures)
    (subst (λ (l : List Edge). Enters graph (Joins l) points_2 points_3 homes_2 homes_3 list_2 list_3) c.as_slice.ensures c.in_ok-enter_edges.ensures.enters)
    (subst (λ (l : List Edge). AreMore points_3 (Has l) c.args.steps.now c.enter_edges.new.steps) c.as_slice.ensures c.in_ok-enter_edges.ensures.steps)
    c.in_ok-edges.ensures.list
    (subst (λ (l : List PointId). Comes (start c.args.root ∷ []) points points_1 l list_1) c.new-points.ensures
    (subst (λ (s : Point). Comes (s ∷ []) points points_1 c.new-points.result list_1) c.start.ensures c.in_ok-_start.ensures.comes))
    (subst (λ (s : Point). Comes (s ∷ []) points_1 points_2 list_1 list_2) c.end_of_graph-last.ensures c.in_ok-end.ensures.comes)
    (subst (λ (l : List Edge). Comes (flat_map both_ends l) points_2 points_3 list_2 list_3) c.as_slice.ensures c.in_ok-enter_edges.ensures.comes)
    (subst (λ (l : List Edge). Continues points_3 l c.args.steps.now c.enter_edges.new.steps) c.as_slice.ensures c.in_ok-enter_edges.ensures.listed)
