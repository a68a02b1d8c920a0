-- What leads from one point to another is an edge.
use Rattle.std.proofs.Common.{◌≡◌, ℕ, zero, suc, ◌<◌, true, is_some, List, [], ◌∷◌, Option, None, Some, refl, ap, sym, ◌∙◌, subst, inl, inr, length, slice_get, get_or, map}
use Rattle.std.proofs.lemmas.Option.{slice_get_within, slice_get-get_or}
use Rattle.py_base.specs.declared.ids.NodeId.{NodeId}
use Rattle.py_base.specs.declared.ids.PointId.{PointId}
use Rattle.py_base.specs.declared.ids.GraphId.{GraphId}
use Rattle.flow_rows.specs.declared.point.Point.{Point}
use Rattle.flow_rows.specs.declared.edge.Edge.{Edge}
use Rattle.flow_rows.specs.declared.edge.EdgeKind.{EdgeKind}
use Rattle.flow_rows.specs.declared.edge.EdgeKind.TheVariants as kinds
use Rattle.flow_rows.specs.declared.form.Form.{Form}
use Rattle.flow_rows.specs.declared.ends.Ends.{Ends}
use Rattle.flow_rows.specs.Points.{edge, start}
use Rattle.flow_rows.specs.Flow.{Has, HasRun, run_by, run_at, HasGraph, IsEdge, IsPointOf}
use Rattle.point_graph.specs.declared.incoming.Way.{Way}
use Rattle.point_graph.specs.declared.members.Members.{Members}
use Rattle.point_graph.specs.Numbers.{IsNumber, list_at}
use Rattle.point_graph.specs.Members.{IsGraphAt, IsHome}
use Rattle.point_graph.specs.Graph.{Numbered, AreNumbered, listed_or}
use Rattle.point_graph.specs.Laws.{Leads, AreTogether, AreApart}
use Rattle.point_graph.proofs.Keys.{has_at}
use Rattle.point_graph.proofs.Drafts.{has_not}
use Rattle.point_graph.proofs.Steps.{no_point}
use Rattle.flow_rows.specs.Laws.{LeavesOwn, ExitsLeaveOwnPoints}

some_same : {A : Type 0} {x y : A} → Some x ≡ Some y → x ≡ y
some_same e = cc e

-- a way by where it comes from and its kind
way_at : (ws : List Way) (i : ℕ) (from : PointId) (kind : EdgeKind) → slice_get (map (λ (w : Way). w.from) ws) i ≡ Some from
    → slice_get (map (λ (w : Way). w.kind) ws) i ≡ Some kind → Has ws (record { from = from; kind = kind })
way_at [] i from kind h g = absurd (cc h)
way_at (w ∷ ws) zero from kind h g =
    inl (subst (λ (x : PointId). ◌≡◌ {A = Way} w (record { from = x; kind = kind })) (some_same h)
    (subst (λ (k : EdgeKind). ◌≡◌ {A = Way} w (record { from = w.from; kind = k })) (some_same g) refl))
way_at (w ∷ ws) (suc i) from kind h g = inr (way_at ws i from kind h g)

-- a list of lists, place by place
listed_map : {B : Type 0} (f : Way → B) (ways : List (List Way)) (j : ℕ) → listed_or (slice_get (map (λ (ws : List Way). map f ws) ways) j) ≡ map f (list_at ways j)
listed_map f [] zero = refl
listed_map f [] (suc j) = refl
listed_map f (ws ∷ ways) zero = refl
listed_map f (ws ∷ ways) (suc j) = listed_map f ways j

some_within : {A : Type 0} (xs : List (List A)) (j i : ℕ) (x : A) → slice_get (listed_or (slice_get xs j)) i ≡ Some x → j < length xs
some_within {A} xs j i x h = go (slice_get xs j) refl h
  where
    go : (o : Option (List A)) → slice_get xs j ≡ o → slice_get (listed_or o) i ≡ Some x → j < length xs
    go None e w = absurd (cc w)
    go (Some ys) e w = slice_get_within xs j ys e

pub lead_edge : (forms : List Form) (t : List Ends) (g : Numbered) → AreNumbered forms t g → (from to : PointId) (kind : EdgeKind) → Leads g from to kind
    → (p : Point) × (q : Point) × IsNumber g.points from p × IsNumber g.points to q × IsEdge forms t (edge p q kind)
lead_edge forms t g n from to kind lead =
    let sources = ap (λ (l : List (List PointId)). slice_get (listed_or (slice_get l to.0)) lead.0) n.sources
    ∙ ap (λ (l : List PointId). slice_get l lead.0) (listed_map (λ (w : Way). w.from) n.ways to.0) in
    let labels = ap (λ (l : List (List EdgeKind)). slice_get (listed_or (slice_get l to.0)) lead.0) n.labels
    ∙ ap (λ (l : List EdgeKind). slice_get l lead.0) (listed_map (λ (w : Way). w.kind) n.ways to.0) in
    let has : Has (list_at n.ways to.0) (record { from = from; kind = kind }) = way_at (list_at n.ways to.0) lead.0 from kind (sym sources ∙ lead.1) (sym labels ∙ lead.2) in
    let lt : to.0 < length n.ways = subst (λ (k : ℕ). to.0 < k) (map_long n.ways)
    (subst (λ (l : List (List PointId)). to.0 < length l) n.sources (some_within g.antecedents to.0 lead.0 from lead.1)) in
    let there = slice_get-get_or g.points to.0 no_point (subst (λ (k : ℕ). to.0 < k) n.long lt) in
    let r = (n.exact (record { from = from; kind = kind }) to.0 _ there).0 has in
    (r.0, _, r.1, there, r.2)
  where
    map_long : (ways : List (List Way)) → length (map (λ (ws : List Way). map (λ (w : Way). w.from) ws) ways) ≡ length ways
    map_long [] = refl
    map_long (ws ∷ ways) = ap suc (map_long ways)

-- the number of a point of a graph is one of the graph's
in_members : (forms : List Form) (t : List Ends) (g : Numbered) (root : NodeId) (m : Option Members) (id : PointId) (p : Point)
    → HasGraph forms root → IsGraphAt forms t g.points root m → IsNumber g.points id p → IsPointOf forms t root p
    → (x : Members) × (m ≡ Some x) × Has x.points id
in_members forms t g root None id p has at number of = absurd (has_not forms root at has)
in_members forms t g root (Some m) id p has at number of = (m, refl, (at.1.exact id).1 (p, number, of))

-- a node with a graph is one of the forms
root_within : (forms : List Form) (n : NodeId) → HasGraph forms n → n.0 < length forms
root_within forms n h = go (slice_get forms n.0) refl h
  where
    go : (o : Option Form) → slice_get forms n.0 ≡ o → HasRun (run_by o) → n.0 < length forms
    go None e w = absurd w
    go (Some form) e w = slice_get_within forms n.0 form e

pub points_together : (forms : List Form) (t : List Ends) (g : Numbered) → AreNumbered forms t g → (root : NodeId) (one other : PointId) (p q : Point)
    → HasGraph forms root → IsNumber g.points one p → IsNumber g.points other q → IsPointOf forms t root p → IsPointOf forms t root q → AreTogether g one other
points_together forms t g n root one other p q has first second of_p of_q =
    let lt : root.0 < length g.graphs = subst (λ (k : ℕ). root.0 < k) (sym n.graphs.0) (root_within forms root has) in
    let there = slice_get-get_or g.graphs root.0 None lt in
    let at = n.graphs.1 root.0 _ there in
    let a = in_members forms t g root _ one p has at first of_p in
    let b = in_members forms t g root _ other q has at second of_q in (
      root.0,
      a.0,
      there ∙ ap Some a.1,
      a.2,
      subst (λ (x : Members). Has x.points other) (some_same (sym b.1 ∙ a.1)) b.2,
    )

pub lead_together : (forms : List Form) (t : List Ends) (g : Numbered) → AreNumbered forms t g → (from to : PointId) (kind : EdgeKind) → Leads g from to kind
    → (kind ≡ kinds.Start → ⊥) → AreTogether g from to
lead_together forms t g n from to kind lead away =
    let r = lead_edge forms t g n from to kind lead in
    elim r.4 [
      | inl own ↦ points_together forms t g n own.0 from to r.0 r.1 own.1 r.2 r.3 (inr (inr (edge r.0 r.1 kind, own.2, inl refl)))
          (inr (inr (edge r.0 r.1 kind, own.2, inr refl)))
      | inr start ↦ absurd (away (sym (ap (λ (x : Edge). x.kind) start.3)))
    ]

pub lead_own : ExitsLeaveOwnPoints → (forms : List Form) (t : List Ends) (g : Numbered) → AreNumbered forms t g → (from to : PointId) (kind : EdgeKind) → Leads g from to kind
    → (p : Point) × IsNumber g.points from p × LeavesOwn kind p
lead_own law forms t g n from to kind lead =
    let r = lead_edge forms t g n from to kind lead in (r.0, r.2, law forms t (edge r.0 r.1 kind) r.4)

pub end_there : (forms : List Form) (t : List Ends) (g : Numbered) → AreNumbered forms t g → (n : ℕ) (m : Members) → slice_get g.graphs n ≡ Some (Some m) → Has m.points m.end
end_there forms t g n k m at =
    let found = (n.graphs.1 k (Some m) at).1 in (found.exact m.end).1 (_, found.end, inr (inl refl))

-- ---- where no point is in two graphs

has_graph : (forms : List Form) (n : NodeId) → is_some (run_at forms n) ≡ true → HasGraph forms n
has_graph forms n h = go (run_at forms n) h
  where
    go : (run : Option (List NodeId)) → is_some run ≡ true → HasRun run
    go None e = cc e
    go (Some run) e = tt

-- the graph of a number, its node, and the point of one of its numbers
point_in : (forms : List Form) (t : List Ends) (g : Numbered) → AreNumbered forms t g → (n : ℕ) (m : Members) (id : PointId) → slice_get g.graphs n ≡ Some (Some m) → Has m.points id
    → HasGraph forms (record { 0 = n }) × ((p : Point) × IsNumber g.points id p × IsPointOf forms t (record { 0 = n }) p)
point_in forms t g are n m id at has =
    let found = are.graphs.1 n (Some m) at in (has_graph forms (record { 0 = n }) found.0, (found.1.exact id).0 has)

abbrev no_graph : GraphId
no_graph = record { 0 = 0 }

pub alone_home : (forms : List Form) (t : List Ends) (g : Numbered) → AreNumbered forms t g → AreApart forms t → (n : ℕ) (m : Members) (id : PointId)
    → slice_get g.graphs n ≡ Some (Some m) → Has m.points id → slice_get g.homes id.0 ≡ Some (record { 0 = n })
alone_home forms t g are apart n m id at has =
    let one = point_in forms t g are n m id at has in
    let lt : id.0 < length g.homes = subst (λ (k : ℕ). id.0 < k) (sym are.homes.0) (slice_get_within g.points id.0 one.1.0 one.1.1) in
    let home : slice_get g.homes id.0 ≡ Some (get_or g.homes id.0 no_graph) = slice_get-get_or g.homes id.0 no_graph lt in
    let is : IsHome g.graphs (record { 0 = id.0 }) (get_or g.homes id.0 no_graph) = are.homes.1 id.0 (get_or g.homes id.0 no_graph) home in
    let k : ℕ = (get_or g.homes id.0 no_graph).0 in
    let other = point_in forms t g are k is.members id is.at is.has in
    let same : other.1.0 ≡ one.1.0 = some_same (sym other.1.1 ∙ one.1.1) in
    let of : IsPointOf forms t (record { 0 = k }) one.1.0 = subst (λ (p : Point). IsPointOf forms t (record { 0 = k }) p) same other.1.2 in
    let nodes : ◌≡◌ {A = NodeId} (record { 0 = k }) (record { 0 = n }) = apart (record { 0 = k }) (record { 0 = n }) one.1.0 other.0 one.0 of one.1.2 in
    home ∙ ap (λ (x : NodeId). Some (record { 0 = x.0 })) nodes

pub edge_homes : (forms : List Form) (t : List Ends) (g : Numbered) → AreNumbered forms t g → AreApart forms t → (from to : PointId) (kind : EdgeKind)
    → Leads g from to kind → (kind ≡ kinds.Start → ⊥) → slice_get g.homes from.0 ≡ slice_get g.homes to.0
edge_homes forms t g are apart from to kind lead away =
    let (n, m, at, one, other) = lead_together forms t g are from to kind lead away in
    alone_home forms t g are apart n m from at one ∙ sym (alone_home forms t g are apart n m to at other)

pub start_home : (forms : List Form) (t : List Ends) (g : Numbered) → AreNumbered forms t g → AreApart forms t → (n : NodeId) (id : PointId)
    → HasGraph forms n → IsNumber g.points id (start n) → slice_get g.homes id.0 ≡ Some (record { 0 = n.0 })
start_home forms t g are apart n id has number =
    let lt : n.0 < length g.graphs = subst (λ (k : ℕ). n.0 < k) (sym are.graphs.0) (root_within forms n has) in
    let there = slice_get-get_or g.graphs n.0 None lt in
    let at = are.graphs.1 n.0 _ there in
    let a = in_members forms t g n _ id (start n) has at number (inl refl) in
    alone_home forms t g are apart n.0 a.0 id (there ∙ ap Some a.1) a.2
