-- A draft of all nodes with the edges to the starts is the graph of the tree.
use Rattle.std.proofs.Common.{◌≡◌, ℕ, ◌<◌, ◌^◌, List, [], ◌∷◌, ◌++◌, Option, None, Some, refl, ap, sym, ◌∙◌, subst, ◌↔◌, inl, inr, length, slice_get, map, zero, suc, option_map}
use Rattle.std.proofs.lemmas.List.{length-map}
use Rattle.std.proofs.lemmas.Option.{slice_get_within, slice_get-get_or, slice_get-map}
use Rattle.smallvec.specs.SmallVec.{SmallVec}
use Rattle.py_base.specs.declared.ids.NodeId.{NodeId}
use Rattle.py_base.specs.declared.ids.GraphId.{GraphId}
use Rattle.py_base.specs.declared.ids.PointId.{PointId}
use Rattle.flow_rows.specs.declared.point.Point.{Point}
use Rattle.flow_rows.specs.declared.edge.EdgeKind.{EdgeKind}
use Rattle.flow_rows.specs.declared.form.Form.{Form}
use Rattle.flow_rows.specs.Points.{start}
use Rattle.flow_rows.specs.declared.ends.Ends.{Ends}
use Rattle.flow_rows.specs.Flow.{Has, HasRun, run_by, HasGraph, IsPoint, IsEdge}
use Rattle.point_graph.specs.declared.numbers.Step.{Step}
use Rattle.point_graph.specs.declared.incoming.Way.{Way}
use Rattle.point_graph.specs.declared.members.Members.{Members}
use Rattle.point_graph.specs.Numbers.{lists, list_at, way_begin, into}
use Rattle.point_graph.specs.declared.runs.Run.{Run}
use Rattle.point_graph.specs.Runs.{part, parts}
use Rattle.point_graph.specs.Operands.{operands_of}
use Rattle.std.specs.List.{flat_map}
use Rattle.flow_rows.specs.Edges.{graph_edges}
use Rattle.point_graph.specs.Order.{roots, roots_below, start_edge, all_points, all_edges, edges_to, begin_of}
use Rattle.point_graph.specs.Building.{AreMore, AreStepsOf, AreStepsBy, IsDraft, IsPointBelow, IsStartBelow, Continues}
use Rattle.point_graph.proofs.Ordering.{steps_all, into_ordered}
use Rattle.point_graph.specs.Graph.{Numbered, AreNumbered, IsClosed, listed_or}
use Rattle.point_graph.proofs.Steps.{ways_exact, no_point}

-- a node with a graph is one of the forms
pub graph_within : (forms : List Form) (n : NodeId) → HasGraph forms n → n.0 < length forms
graph_within forms n h = go (slice_get forms n.0) refl h
  where
    go : (o : Option Form) → slice_get forms n.0 ≡ o → HasRun (run_by o) → n.0 < length forms
    go None e w = absurd w
    go (Some form) e w = slice_get_within forms n.0 form e

points_whole : (forms : List Form) (t : List Ends) (p : Point) → IsPointBelow forms t (length forms) p ↔ IsPoint forms t p
points_whole forms t p = (λ r. (r.0, r.2, r.3), λ r. (r.0, graph_within forms r.0 r.1, r.1, r.2))

pub starts_there : (forms : List Form) (t : List Ends) (points : List Point) (homes : List GraphId) (steps : List Step) (graphs : List (Option Members))
    → IsDraft forms t (length forms) points homes steps graphs
    → (root : NodeId) → HasGraph forms root → Has points (start root)
starts_there forms t points homes steps graphs d root has = (d.exact (start root)).1 (root, graph_within forms root has, has, inl refl)

-- the steps are all edges
pub steps_whole : (forms : List Form) (t : List Ends) (points : List Point) (homes : List GraphId) (steps new_steps : List Step) (graphs : List (Option Members))
    → IsDraft forms t (length forms) points homes steps graphs
    → AreMore points (IsStartBelow forms points (length forms)) steps new_steps
    → AreStepsOf points (IsEdge forms t) new_steps
steps_whole forms t points homes steps new_steps graphs d more = record {
  sound = λ s h. elim (more.sound s h) [
    | inl o ↦ let r = d.edges.sound s o in (r.0, inl (r.1.0, r.1.2, r.1.3), r.2)
    | inr r ↦ (r.0, inr (r.1.0, r.1.2.0, (points_whole forms t _).0 ((d.exact _).0 r.1.2.1), r.1.2.2), r.2)
  ];
  known = λ e h. elim h [
    | inl r ↦ let k = d.edges.known e (r.0, graph_within forms r.0 r.1, r.1, r.2) in (k.0, more.old_stay k.0 k.1, k.2)
    | inr r ↦ more.known e (r.0, graph_within forms r.0 r.1, (r.1, (d.exact _).1 ((points_whole forms t _).1 r.2), r.3))
  ];
}

-- a draft by another reading of the table
pub draft_by : (forms : List Form) (t seen : List Ends) (n : ℕ) (points : List Point) (homes : List GraphId) (steps : List Step) (graphs : List (Option Members))
    → seen ≡ t → IsDraft forms seen n points homes steps graphs → IsDraft forms t n points homes steps graphs
draft_by forms t seen n points homes steps graphs e d = subst (λ (l : List Ends). IsDraft forms l n points homes steps graphs) e d

pub graph_whole : (forms : List Form) (t : List Ends) (g : Numbered) (steps new_steps : List Step) (ways : List (SmallVec Way)) (count : ℕ)
    → IsDraft forms t (length forms) g.points g.homes steps g.graphs
    → AreMore g.points (IsStartBelow forms g.points (length forms)) steps new_steps
    → Continues g.points (flat_map (start_edge g.points) (roots_below forms (length forms))) steps new_steps
    → count ≡ length g.points → length ways ≡ count
    → ((j : ℕ) → j < count → list_at (lists ways) j ≡ into j new_steps)
    → g.antecedents ≡ map (λ (ws : List Way). map (λ (w : Way). w.from) ws) (lists ways)
    → g.kinds ≡ map (λ (ws : List Way). map (λ (w : Way). w.kind) ws) (lists ways)
    → g.operands ≡ operands_of forms → g.ends ≡ t
    → AreNumbered forms t g
graph_whole forms t g steps new_steps ways count d more starting counted long at sources labels operands ends = record {
  apart = d.numbering.apart;
  points = λ p. (λ h. (points_whole forms t p).0 ((d.exact p).0 h), λ h. (d.exact p).1 ((points_whole forms t p).1 h));
  graphs = d.each;
  homes = (d.numbering.long, d.home);
  operands = operands;
  ends = ends;
  ways = lists ways;
  long = length-map ways (λ (v : SmallVec Way). v.items) ∙ long ∙ counted;
  sources = sources;
  labels = labels;
  exact = λ w j q at-j.
      let here : list_at (lists ways) j ≡ into j new_steps = at j (subst (λ (n : ℕ). j < n) (sym counted) (slice_get_within g.points j q at-j)) in
      let are : AreStepsOf g.points (IsEdge forms t) new_steps = steps_whole forms t g.points g.homes steps new_steps g.graphs d more in
      let split = ways_exact g.points (IsEdge forms t) new_steps d.numbering.apart are w j q at-j in (
        λ h. split.0 (subst (λ (x : List Way). Has x w) here h),
        λ r. subst (λ (x : List Way). Has x w) (sym here) (split.1 r),
      );
  listed = d.all;
  ordered = λ j q at-j.
      let here : list_at (lists ways) j ≡ into j new_steps = at j (subst (λ (n : ℕ). j < n) (sym counted) (slice_get_within g.points j q at-j)) in
      let by : AreStepsBy g.points (flat_map (graph_edges forms t) (roots forms) ++ flat_map (start_edge g.points) (roots forms)) new_steps
      = steps_all g.points (flat_map (graph_edges forms t) (roots forms)) (flat_map (start_edge g.points) (roots forms)) steps new_steps d.listed starting in
      let all : AreStepsBy g.points (all_edges forms t) new_steps
      = subst (λ (l : List Point). AreStepsBy g.points (flat_map (graph_edges forms t) (roots forms) ++ flat_map (start_edge l) (roots forms)) new_steps) d.all by in
      ap (λ (ws : List Way). map (way_begin g.points) ws) here ∙ into_ordered g.points (all_edges forms t) new_steps d.numbering.apart all j q at-j;
}

lengths : {A : Type 0} (f : Way → A) (ways : List (List Way)) → map length (map (λ (ws : List Way). map f ws) ways) ≡ map length ways
lengths f [] = refl
lengths f (ws ∷ ways) = ap (λ (n : ℕ). n ∷ map length (map (λ (x : List Way). map f x) ways)) (length-map ws f) ∙ ap (λ (l : List ℕ). length ws ∷ l) (lengths f ways)

from_way : (ws : List Way) (id : PointId) → Has (map (λ (w : Way). w.from) ws) id → (w : Way) × Has ws w × (w.from ≡ id)
from_way [] id h = absurd h
from_way (w ∷ ws) id (inl same) = (w, inl refl, same)
from_way (w ∷ ws) id (inr h) = let r = from_way ws id h in (r.0, inr r.1, r.2)

at_map : (ways : List (List Way)) (j : ℕ) (ids : List PointId) → slice_get (map (λ (ws : List Way). map (λ (w : Way). w.from) ws) ways) j ≡ Some ids
    → map (λ (w : Way). w.from) (list_at ways j) ≡ ids
at_map [] j ids h = absurd (cc h)
at_map (ws ∷ ways) zero ids h = cc h
at_map (ws ∷ ways) (suc j) ids h = at_map ways j ids h

-- the numbers of a graph are those of its points
pub closed : (forms : List Form) (t : List Ends) (g : Numbered) → AreNumbered forms t g → length g.points < 2 ^ 32 → IsClosed g
closed forms t g n few = record {
  few = few;
  sources = λ j ids at id h.
      let made : slice_get (map (λ (ws : List Way). map (λ (w : Way). w.from) ws) n.ways) j ≡ Some ids = ap (λ (l : List (List PointId)). slice_get l j) (sym n.sources) ∙ at in
      let lt : j < length n.ways = subst (λ (k : ℕ). j < k) (length-map n.ways (λ (ws : List Way). map (λ (w : Way). w.from) ws))
      (slice_get_within (map (λ (ws : List Way). map (λ (w : Way). w.from) ws) n.ways) j ids made) in
      let point = slice_get-get_or g.points j no_point (subst (λ (k : ℕ). j < k) n.long lt) in
      let w = from_way (list_at n.ways j) id (subst (λ (l : List PointId). Has l id) (sym (at_map n.ways j ids made)) h) in
      let r = (n.exact w.0 j _ point).0 w.1 in
      subst (λ (x : PointId). x.0 < length g.points) w.2 (slice_get_within g.points w.0.from.0 r.0 r.1);
  long = ap (λ (l : List (List EdgeKind)). map length l) n.labels ∙ lengths (λ (w : Way). w.kind) n.ways
      ∙ sym (ap (λ (l : List (List PointId)). map length l) n.sources ∙ lengths (λ (w : Way). w.from) n.ways);
  members = λ k m at. let found = (n.graphs.1 k (Some m) at).1 in (
    λ id h. let r = (found.exact id).0 h in slice_get_within g.points id.0 r.0 r.1,
    slice_get_within g.points m.end.0 _ found.end,
  );
  homes = n.homes.0;
  owners = λ i h at. let home = n.homes.1 i h at in (home.members, home.at);
}

-- lists of equal lengths, place by place
pub long_at : {A B : Type 0} (xs : List (List A)) (ys : List (List B)) (j : ℕ) → map length xs ≡ map length ys
    → length (listed_or (slice_get xs j)) ≡ length (listed_or (slice_get ys j))
long_at [] [] j h = refl
long_at [] (y ∷ ys) j h = absurd (cc h)
long_at (x ∷ xs) [] j h = absurd (cc h)
long_at (x ∷ xs) (y ∷ ys) zero h = cc h
long_at (x ∷ xs) (y ∷ ys) (suc j) h = long_at xs ys j (cc h)

pub graph_closed : (forms : List Form) (t : List Ends) (g : Numbered) (steps new_steps : List Step) (ways : List (SmallVec Way)) (count : ℕ)
    → IsDraft forms t (length forms) g.points g.homes steps g.graphs
    → AreMore g.points (IsStartBelow forms g.points (length forms)) steps new_steps
    → Continues g.points (flat_map (start_edge g.points) (roots_below forms (length forms))) steps new_steps
    → count ≡ length g.points → length ways ≡ count
    → ((j : ℕ) → j < count → list_at (lists ways) j ≡ into j new_steps)
    → g.antecedents ≡ map (λ (ws : List Way). map (λ (w : Way). w.from) ws) (lists ways)
    → g.kinds ≡ map (λ (ws : List Way). map (λ (w : Way). w.kind) ws) (lists ways)
    → g.operands ≡ operands_of forms → g.ends ≡ t
    → IsClosed g
graph_closed forms t g steps new_steps ways count d more starting counted long at sources labels operands ends =
    closed forms t g (graph_whole forms t g steps new_steps ways count d more starting counted long at sources labels operands ends) d.numbering.few

-- the list at a number is that at its run
pub part_at : {A : Type 0} (xs : List A) (runs : List Run) (j : ℕ) (r : Run) → slice_get runs j ≡ Some r → slice_get (parts xs runs) j ≡ Some (part xs r)
part_at {A} xs runs j r at = slice_get-map (part xs) runs j ∙ ap (λ (o : Option Run). option_map (part xs) o) at
