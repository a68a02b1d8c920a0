-- The lists of points and edges have just the points and the edges of the flow.
use Rattle.std.proofs.Common.{◌≡◌, ℕ, zero, suc, ◌<◌, Bool, true, false, true≢false, cond, List, [], ◌∷◌, ◌++◌, refl, ap, sym, ◌∙◌, subst, ◌⊎◌, ◌↔◌, inl, inr, arith, length, is_some}
use Rattle.std.specs.List.{flat_map, list_any}
use Rattle.std.proofs.lemmas.Bool.{cases_lt}
use Rattle.py_base.specs.declared.ids.NodeId.{NodeId}
use Rattle.flow_rows.specs.declared.point.Point.{Point}
use Rattle.flow_rows.specs.declared.edge.Edge.{Edge}
use Rattle.flow_rows.specs.declared.edge.EdgeKind.TheVariants as kinds
use Rattle.flow_rows.specs.declared.form.Form.{Form}
use Rattle.flow_rows.specs.declared.ends.Ends.{Ends}
use Rattle.flow_rows.specs.Points.{edge, own, start}
use Rattle.flow_rows.specs.Flow.{Has, run_at, HasGraph, IsPointOf, IsPoint, IsEdgeOf, IsEdge, end_point}
use Rattle.flow_rows.specs.Edges.{both_ends, graph_edges, graph_points}
use Rattle.flow_rows.proofs.Flowing.{has_split, has_left, has_right, graph_listed}
use Rattle.point_graph.specs.Order.{same_point, added_once, node, roots_below, roots, all_points, all_edges, start_edge}
use Rattle.point_graph.specs.Laws.{ListsAreExact}
use Rattle.point_graph.proofs.Keys.{among_has, has_among}
use Rattle.point_graph.proofs.Ordering.{point_self, point_sound}
use Rattle.point_graph.proofs.Drafts.{has_not, has_too}
use Rattle.point_graph.proofs.Whole.{graph_within}

-- what comes once is there, and nothing else is
added_has : (old xs : List Point) (p : Point) → Has (added_once same_point old xs) p → Has old p ⊎ Has xs p
added_has old [] p h = inl h
added_has old (x ∷ xs) p h = elim (added_has (cond (list_any (same_point x) old) old (old ++ x ∷ [])) xs p h) [
  | inl a ↦ go (list_any (same_point x) old) a
  | inr b ↦ inr (inr b)
]
  where
    go : (b : Bool) → Has (cond b old (old ++ x ∷ [])) p → Has old p ⊎ Has (x ∷ xs) p
    go true w = inl w
    go false w = elim (has_split old (x ∷ []) p w) [ inl a ↦ inl a | inr b ↦ elim b [ inl e ↦ inr (inl e) | inr never ↦ absurd never ] ]

has_added : (old xs : List Point) (p : Point) → Has old p ⊎ Has xs p → Has (added_once same_point old xs) p
has_added old [] p h = elim h [ inl a ↦ a | inr never ↦ absurd never ]
has_added old (x ∷ xs) p h = has_added (cond (list_any (same_point x) old) old (old ++ x ∷ [])) xs p (elim h [
  | inl a ↦ inl (old_stays (list_any (same_point x) old) a)
  | inr w ↦ elim w [ inl e ↦ inl (comes (list_any (same_point x) old) refl e) | inr b ↦ inr b ]
])
  where
    old_stays : (b : Bool) → Has old p → Has (cond b old (old ++ x ∷ [])) p
    old_stays true a = a
    old_stays false a = has_left old (x ∷ []) p a

    comes : (b : Bool) → list_any (same_point x) old ≡ b → x ≡ p → Has (cond b old (old ++ x ∷ [])) p
    comes true e same = subst (λ (q : Point). Has old q) same (among_has same_point point_sound old x e)
    comes false e same = has_right old (x ∷ []) p (inl same)

-- what stands in one of the lists
flat_has : {X A : Type 0} (f : X → List A) (xs : List X) (a : A) → Has (flat_map f xs) a → (x : X) × Has xs x × Has (f x) a
flat_has f [] a h = absurd h
flat_has f (x ∷ xs) a h = elim (has_split (f x) (flat_map f xs) a h) [
  | inl w ↦ (x, inl refl, w)
  | inr w ↦ let r = flat_has f xs a w in (r.0, inr r.1, r.2)
]

has_flat : {X A : Type 0} (f : X → List A) (xs : List X) (x : X) (a : A) → Has xs x → Has (f x) a → Has (flat_map f xs) a
has_flat f [] x a h w = absurd h
has_flat {X} {A} f (y ∷ xs) x a (inl e) w = has_left (f y) (flat_map f xs) a (subst (λ (z : X). Has (f z) a) (sym e) w)
has_flat f (y ∷ xs) x a (inr h) w = has_right (f y) (flat_map f xs) a (has_flat f xs x a h w)

-- the nodes that have graphs
root_has : (forms : List Form) (n : ℕ) (root : NodeId) → Has (roots_below forms n) root → HasGraph forms root
root_has forms zero root h = absurd h
root_has forms (suc n) root h = elim (has_split (roots_below forms n) (cond (is_some (run_at forms (node n))) (node n ∷ []) []) root h) [
  | inl a ↦ root_has forms n root a
  | inr b ↦ go (is_some (run_at forms (node n))) refl b
]
  where
    go : (b : Bool) → is_some (run_at forms (node n)) ≡ b → Has (cond b (node n ∷ []) []) root → HasGraph forms root
    go true e (inl same) = subst (λ (x : NodeId). HasGraph forms x) same (has_too forms (node n) e)
    go true e (inr never) = absurd never
    go false e w = absurd w

has_root : (forms : List Form) (n : ℕ) (root : NodeId) → root.0 < n → HasGraph forms root → Has (roots_below forms n) root
has_root forms zero root lt h = absurd (omega (arith, lt))
has_root forms (suc n) root lt h = elim (last_or_below root.0 n lt) [
  | inl below ↦ has_left (roots_below forms n) _ root (has_root forms n root below h)
  | inr same ↦ has_right (roots_below forms n) _ root (go (is_some (run_at forms (node n))) refl (ap (λ (k : ℕ). node k) (sym same)))
]
  where
    last_or_below : (k m : ℕ) → k < suc m → (k < m) ⊎ (k ≡ m)
    last_or_below k m w = elim (cases_lt k m) [ inl below ↦ inl below | inr ge ↦ inr (omega (arith, w, ge)) ]

    go : (b : Bool) → is_some (run_at forms (node n)) ≡ b → node n ≡ root → Has (cond b (node n ∷ []) []) root
    go true e same = inl same
    go false e same = absurd (has_not forms (node n) e (subst (λ (x : NodeId). HasGraph forms x) (sym same) h))

-- the points of a graph
ends_has : (es : List Edge) (p : Point) → Has (flat_map both_ends es) p → (e : Edge) × Has es e × ((e.from ≡ p) ⊎ (e.to ≡ p))
ends_has es p h =
    let r = flat_has both_ends es p h in
    (r.0, r.1, elim r.2 [ inl a ↦ inl a | inr b ↦ elim b [ inl c ↦ inr c | inr never ↦ absurd never ] ])

has_ends : (es : List Edge) (e : Edge) (p : Point) → Has es e → (e.from ≡ p) ⊎ (e.to ≡ p) → Has (flat_map both_ends es) p
has_ends es e p h w = has_flat both_ends es e p h (elim w [ inl a ↦ inl a | inr b ↦ inr (inl b) ])

point_has : (forms : List Form) (t : List Ends) (root : NodeId) (p : Point) → Has (graph_points forms t root) p ↔ IsPointOf forms t root p
point_has forms t root p = (
  λ h. elim h [
    | inl a ↦ inl a
    | inr b ↦ elim b [
      | inl c ↦ inr (inl c)
      | inr d ↦ let r = ends_has (graph_edges forms t root) p d in inr (inr (r.0, (graph_listed forms t root r.0).0 r.1, r.2))
    ]
  ],
  λ h. elim h [
    | inl a ↦ inl a
    | inr b ↦ elim b [
      | inl c ↦ inr (inl c)
      | inr r ↦ inr (inr (has_ends (graph_edges forms t root) r.0 p ((graph_listed forms t root r.0).1 r.1) r.2))
    ]
  ],
)

points_exact : (forms : List Form) (t : List Ends) (p : Point) → Has (all_points forms t) p ↔ IsPoint forms t p
points_exact forms t p = (
  λ h. elim (added_has [] (flat_map (graph_points forms t) (roots forms)) p h) [
    | inl never ↦ absurd never
    | inr w ↦ let r = flat_has (graph_points forms t) (roots forms) p w in (r.0, root_has forms (length forms) r.0 r.1, (point_has forms t r.0 p).0 r.2)
  ],
  λ r. has_added [] (flat_map (graph_points forms t) (roots forms)) p
      (inr (has_flat (graph_points forms t) (roots forms) r.0 p (has_root forms (length forms) r.0 (graph_within forms r.0 r.1) r.1) ((point_has forms t r.0 p).1 r.2))),
)

-- the edges to starts
start_has : (points : List Point) (root : NodeId) (e : Edge) → Has (start_edge points root) e ↔ (Has points (own root 0) × (edge (own root 0) (start root) kinds.Start ≡ e))
start_has points root e = (
  λ h. go (list_any (same_point (own root 0)) points) refl h,
  λ r. subst (λ (b : Bool). Has (cond b (edge (own root 0) (start root) kinds.Start ∷ []) []) e) (sym (has_among same_point point_self points (own root 0) r.0)) (inl r.1),
)
  where
    go : (b : Bool) → list_any (same_point (own root 0)) points ≡ b → Has (cond b (edge (own root 0) (start root) kinds.Start ∷ []) []) e
        → Has points (own root 0) × (edge (own root 0) (start root) kinds.Start ≡ e)
    go true w (inl same) = (among_has same_point point_sound points (own root 0) w, same)
    go true w (inr never) = absurd never
    go false w h = absurd h

edges_exact : (forms : List Form) (t : List Ends) (e : Edge) → Has (all_edges forms t) e ↔ IsEdge forms t e
edges_exact forms t e = (
  λ h. elim (has_split (flat_map (graph_edges forms t) (roots forms)) (flat_map (start_edge (all_points forms t)) (roots forms)) e h) [
    | inl a ↦ let r = flat_has (graph_edges forms t) (roots forms) e a in inl (r.0, root_has forms (length forms) r.0 r.1, (graph_listed forms t r.0 e).0 r.2)
    | inr b ↦
        let r = flat_has (start_edge (all_points forms t)) (roots forms) e b in
        let s = (start_has (all_points forms t) r.0 e).0 r.2 in
        inr (r.0, root_has forms (length forms) r.0 r.1, (points_exact forms t (own r.0 0)).0 s.0, s.1)
  ],
  λ h. elim h [
    | inl r ↦ has_left (flat_map (graph_edges forms t) (roots forms)) _ e
        (has_flat (graph_edges forms t) (roots forms) r.0 e (has_root forms (length forms) r.0 (graph_within forms r.0 r.1) r.1) ((graph_listed forms t r.0 e).1 r.2))
    | inr r ↦ has_right (flat_map (graph_edges forms t) (roots forms)) _ e
        (has_flat (start_edge (all_points forms t)) (roots forms) r.0 e (has_root forms (length forms) r.0 (graph_within forms r.0 r.1) r.1)
        ((start_has (all_points forms t) r.0 e).1 ((points_exact forms t (own r.0 0)).1 r.2, r.3)))
  ],
)

pub lists_exact : ListsAreExact
lists_exact = record { points = points_exact; edges = edges_exact }

pub ends_there : (forms : List Form) (t : List Ends) (e : Edge) → Has (all_edges forms t) e → Has (all_points forms t) e.from × Has (all_points forms t) e.to
ends_there forms t e h = elim ((edges_exact forms t e).0 h) [
  | inl r ↦ (
    (points_exact forms t e.from).1 (r.0, r.1, inr (inr (e, r.2, inl refl))),
    (points_exact forms t e.to).1 (r.0, r.1, inr (inr (e, r.2, inr refl))),
  )
  | inr r ↦ subst (λ (x : Edge). Has (all_points forms t) x.from × Has (all_points forms t) x.to) r.3 (
    (points_exact forms t (own r.0 0)).1 r.2,
    (points_exact forms t (start r.0)).1 (r.0, r.1, inl refl),
  )
]
