-- Graphs come to a draft one by one, then the edges to their starts, and then it is whole.
use Rattle.std.proofs.Common.{◌≡◌, ℕ, ◌<◌, ◌+◌, true, false, List, [], ◌∷◌, ◌++◌, Option, None, Some, refl, ap, sym, ◌∙◌, subst, ◌⊎◌, ◌↔◌, inl, inr, arith, length, length-append, slice_get, is_some, true≢false}
use Rattle.std.proofs.lemmas.Option.{slice_get_within}
use Rattle.std.proofs.lemmas.Bool.{cases_lt}
use Rattle.py_base.specs.declared.ids.NodeId.{NodeId}
use Rattle.py_base.specs.declared.ids.GraphId.{GraphId}
use Rattle.py_base.specs.declared.ids.PointId.{PointId}
use Rattle.flow_rows.specs.declared.point.Point.{Point}
use Rattle.flow_rows.specs.declared.edge.Edge.{Edge}
use Rattle.flow_rows.specs.declared.form.Form.{Form}
use Rattle.flow_rows.specs.Points.{start}
use Rattle.flow_rows.specs.declared.ends.Ends.{Ends}
use Rattle.flow_rows.specs.Flow.{Has, HasRun, run_at, HasGraph, end_point, IsEdgeOf, IsPointOf}
use Rattle.point_graph.specs.declared.numbers.Step.{Step}
use Rattle.point_graph.specs.declared.members.Members.{Members}
use Rattle.point_graph.specs.Numbers.{IsApart, Keeps, IsNumber}
use Rattle.point_graph.specs.Members.{IsMembers, IsGraphAt, AreGraphs, IsHome}
use Rattle.std.specs.List.{flat_map}
use Rattle.flow_rows.specs.Edges.{both_ends, graph_edges, graph_points}
use Rattle.point_graph.specs.Order.{same_point, added_once, points_of, roots_below}
use Rattle.point_graph.specs.Building.{IsListOf, Enters, Joins, AreMore, AreStepsBy, Comes, Continues, Adds, AddsAt, IsDraft, IsPointBelow}
use Rattle.point_graph.proofs.Ordering.{added_both, numbers_kept, comes_both, roots_skip, roots_take, steps_more}
use Rattle.point_graph.proofs.Keys.{get_append, place_of, push_cases}
use Rattle.point_graph.proofs.Steps.{same_id}
use Rattle.point_graph.proofs.Entering.{enters_both, enters_as, step_kept}

pub list_of_none : (homes : List GraphId) (graph : GraphId) → ((i : ℕ) → slice_get homes i ≡ Some graph → ⊥) → IsListOf homes graph []
list_of_none homes graph new = record {
  exact = λ id. (λ h. absurd h, λ h. absurd (new id.0 h));
  once = λ i j x h. absurd (cc h);
}

-- the list of a graph begins with the point that came first
first_there : (graph : GraphId) (point : Point) (points new_points : List Point) (homes new_homes : List GraphId) (list : List PointId)
    → Enters graph (λ p. point ≡ p) points new_points homes new_homes [] list
    → (id : PointId) × (slice_get list 0 ≡ Some id) × IsNumber new_points id point
first_there graph point points new_points homes new_homes [] a = absurd ((a.known point refl).1)
first_there graph point points new_points homes new_homes (id ∷ list) a = elim (a.sound id (inl refl)) [
  | inl never ↦ absurd never
  | inr r ↦ (id, refl, subst (λ (p : Point). IsNumber new_points id p) (sym r.2) r.1)
]

-- what the steps for a graph give
pub graph_made : (forms : List Form) (t : List Ends) (root : NodeId) (edges : List Edge)
    (points points_1 points_2 points_3 : List Point) (homes homes_1 homes_2 homes_3 : List GraphId) (list_1 list_2 list_3 : List PointId)
    (steps new_steps : List Step) (end : PointId)
    → ((e : Edge) → Has edges e ↔ IsEdgeOf forms t root e)
    → Enters (record { 0 = root.0 }) (λ p. start root ≡ p) points points_1 homes homes_1 [] list_1
    → Enters (record { 0 = root.0 }) (λ p. end_point forms t root ≡ p) points_1 points_2 homes_1 homes_2 list_1 list_2
    → IsNumber points_2 end (end_point forms t root)
    → Enters (record { 0 = root.0 }) (Joins edges) points_2 points_3 homes_2 homes_3 list_2 list_3
    → AreMore points_3 (Has edges) steps new_steps
    → edges ≡ graph_edges forms t root
    → Comes (start root ∷ []) points points_1 [] list_1 → Comes (end_point forms t root ∷ []) points_1 points_2 list_1 list_2
    → Comes (flat_map both_ends edges) points_2 points_3 list_2 list_3 → Continues points_3 edges steps new_steps
    → Adds forms t root points points_3 homes homes_3 steps new_steps (record { points = list_3; end = end })
graph_made forms t root edges points points_1 points_2 points_3 homes homes_1 homes_2 homes_3 list_1 list_2 list_3 steps new_steps end told a b at c more is first last ends listed =
    let graph : GraphId = record { 0 = root.0 } in
    let joins : (p : Point) → ((start root ≡ p ⊎ end_point forms t root ≡ p) ⊎ Joins edges p) ↔ IsPointOf forms t root p = λ p. (
      λ h. elim h [
        | inl x ↦ elim x [ inl u ↦ inl u | inr v ↦ inr (inl v) ]
        | inr r ↦ inr (inr (r.0, (told r.0).0 r.1, r.2))
      ],
      λ h. elim h [ inl u ↦ inl (inl u) | inr x ↦ elim x [ inl v ↦ inl (inr v) | inr r ↦ inr (r.0, (told r.0).1 r.1, r.2) ] ],
    ) in
    let two : Enters graph (λ p. start root ≡ p ⊎ end_point forms t root ≡ p) points points_2 homes homes_2 [] list_2
    = enters_both graph (λ p. start root ≡ p) (λ p. end_point forms t root ≡ p) points points_1 points_2 homes homes_1 homes_2 [] list_1 list_2 a b in
    let three : Enters graph (λ p. (start root ≡ p ⊎ end_point forms t root ≡ p) ⊎ Joins edges p) points points_3 homes homes_3 [] list_3
    = enters_both graph (λ p. start root ≡ p ⊎ end_point forms t root ≡ p) (Joins edges) points points_2 points_3 homes homes_2 homes_3 [] list_2 list_3 two c in
    let all : Enters graph (IsPointOf forms t root) points points_3 homes homes_3 [] list_3
    = enters_as graph (λ p. (start root ≡ p ⊎ end_point forms t root ≡ p) ⊎ Joins edges p) (IsPointOf forms t root) points points_3 homes homes_3 [] list_3 joins three in
    let f = first_there graph (start root) points points_1 homes homes_1 list_1 a in
    let come : Comes (graph_points forms t root) points points_3 [] list_3
    = comes_both (start root ∷ []) (end_point forms t root ∷ flat_map both_ends (graph_edges forms t root)) points points_1 points_3 [] list_1 list_3 first
    (comes_both (end_point forms t root ∷ []) (flat_map both_ends (graph_edges forms t root)) points_1 points_2 points_3 list_1 list_2 list_3 last
    (subst (λ (l : List Edge). Comes (flat_map both_ends l) points_2 points_3 list_2 list_3) is ends)) in
    record {
      numbering = all.numbering;
      keeps = all.keeps;
      exact = all.exact;
      alone = all.alone;
      of = all.of;
      members = record {
        first = (f.0, c.list_keeps 0 f.0 (b.list_keeps 0 f.0 f.1), c.keeps f.0.0 (start root) (b.keeps f.0.0 (start root) f.2));
        exact = λ id. (
          λ h. elim (all.sound id h) [ inl never ↦ absurd never | inr r ↦ r ],
          λ r. let k = all.known r.0 r.2 in
              subst (λ (x : PointId). Has list_3 x) (same_id k.0 id (all.numbering.apart k.0.0 id.0 r.0 k.2 r.1)) k.1,
        );
        once = all.of.once;
        listed = come.own [] refl;
        end = c.keeps end.0 (end_point forms t root) at;
      };
      edges = record {
        old_stay = more.old_stay;
        sound = λ s h. elim (more.sound s h) [ inl o ↦ inl o | inr r ↦ inr (r.0, (told r.0).0 r.1, r.2) ];
        known = λ e h. more.known e ((told e).1 h);
      };
      all = come.all;
      listed = subst (λ (l : List Edge). Continues points_3 l steps new_steps) is listed;
    }

run_no : (o : Option (List NodeId)) → is_some o ≡ false → HasRun o → ⊥
run_no None h w = absurd w
run_no (Some run) h w = absurd (true≢false h)

run_yes : (o : Option (List NodeId)) → is_some o ≡ true → HasRun o
run_yes None h = absurd (true≢false (sym h))
run_yes (Some run) h = tt

pub has_not : (forms : List Form) (root : NodeId) → is_some (run_at forms root) ≡ false → HasGraph forms root → ⊥
has_not forms root h w = run_no (run_at forms root) h w

pub has_too : (forms : List Form) (root : NodeId) → is_some (run_at forms root) ≡ true → HasGraph forms root
has_too forms root h = run_yes (run_at forms root) h

same_node : (root : NodeId) (n : ℕ) → root.0 ≡ n → root ≡ record { 0 = n }
same_node root n h = ap (λ (k : ℕ). record { 0 = k }) h

last_or_below : (k n : ℕ) → k < n + 1 → (k < n) ⊎ (k ≡ n)
last_or_below k n h = elim (cases_lt k n) [ inl lt ↦ inl lt | inr ge ↦ inr (omega arith) ]

members_kept : (forms : List Form) (t : List Ends) (old new : List Point) (root : NodeId) (m : Members)
    → Keeps old new → IsApart new → ((p : Point) → IsPointOf forms t root p → Has old p)
    → IsMembers forms t old root m → IsMembers forms t new root m
members_kept forms t old new root m kept apart had h = record {
  first = (h.first.0, h.first.1, kept h.first.0.0 (start root) h.first.2);
  exact = λ id. (
    λ w. let r = (h.exact id).0 w in (r.0, kept id.0 r.0 r.1, r.2),
    λ r. let k = place_of old r.0 (had r.0 r.2) in
        (h.exact id).1 (r.0, subst (λ (n : ℕ). slice_get old n ≡ Some r.0) (apart k.0 id.0 r.0 (kept k.0 r.0 k.1) r.1) k.1, r.2),
  );
  once = h.once;
  listed = numbers_kept old new m.points (points_of forms t root) kept h.listed;
  end = kept m.end.0 (end_point forms t root) h.end;
}

-- a graph that is there stays as points come
graph_kept : (forms : List Form) (t : List Ends) (old new : List Point) (n k : ℕ) (m : Option Members)
    → Keeps old new → IsApart new → ((p : Point) → Has old p ↔ IsPointBelow forms t n p) → k < n
    → IsGraphAt forms t old (record { 0 = k }) m → IsGraphAt forms t new (record { 0 = k }) m
graph_kept forms t old new n k None kept apart exact lt h = h
graph_kept forms t old new n k (Some m) kept apart exact lt h =
    (h.0, members_kept forms t old new (record { 0 = k }) m kept apart (λ p w. (exact p).1 (record { 0 = k }, lt, has_too forms (record { 0 = k }) h.0, w)) h.1)

-- one more node, with or without a graph
graphs_more : (forms : List Form) (t : List Ends) (old new : List Point) (n : ℕ) (graphs made : List (Option Members)) (m : Option Members)
    → Keeps old new → IsApart new → ((p : Point) → Has old p ↔ IsPointBelow forms t n p)
    → AreGraphs forms t old n graphs → IsGraphAt forms t new (record { 0 = n }) m → made ≡ graphs ++ m ∷ []
    → AreGraphs forms t new (n + 1) made
graphs_more forms t old new n graphs made m kept apart exact h one is =
    let long : length made ≡ n + 1 = rw (is, length-append graphs (m ∷ []), h.0) refl in (
      long,
      λ k x at. elim (push_cases graphs m x k (subst (λ (l : List (Option Members)). slice_get l k ≡ Some x) is at)) [
        | inl a ↦ graph_kept forms t old new n k x kept apart exact (subst (λ (j : ℕ). k < j) h.0 (slice_get_within graphs k x a)) (h.1 k x a)
        | inr b ↦ subst (λ (y : Option Members). IsGraphAt forms t new (record { 0 = k }) y) b.1
            (subst (λ (j : ℕ). IsGraphAt forms t new (record { 0 = j }) m) (sym (b.0 ∙ h.0)) one)
      ],
    )

-- the graph of a point stays where the new graph doesn't take it
home_kept : (graphs made : List (Option Members)) (m : Option Members) (id : PointId) (g : GraphId)
    → made ≡ graphs ++ m ∷ [] → ((x : Members) → m ≡ Some x → Has x.points id → ⊥)
    → IsHome graphs id g → IsHome made id g
home_kept graphs made m id g is away h = record {
  members = h.members;
  at = subst (λ (l : List (Option Members)). slice_get l g.0 ≡ Some (Some h.members)) (sym is) (get_append graphs (m ∷ []) g.0 (Some h.members) h.at);
  has = h.has;
  last = λ k x at w. elim (push_cases graphs m (Some x) k (subst (λ (l : List (Option Members)). slice_get l k ≡ Some (Some x)) is at)) [
    | inl a ↦ h.last k x a w
    | inr b ↦ absurd (away x b.1 w)
  ];
}

get_end : {A : Type 0} (xs : List A) (x : A) → slice_get (xs ++ x ∷ []) (length xs) ≡ Some x
get_end [] x = refl
get_end (y ∷ xs) x = get_end xs x

home_new : (graphs made : List (Option Members)) (m : Members) (id : PointId) (n : ℕ)
    → made ≡ graphs ++ Some m ∷ [] → length graphs ≡ n → Has m.points id → IsHome made id (record { 0 = n })
home_new graphs made m id n is long has = record {
  members = m;
  at = subst (λ (l : List (Option Members)). slice_get l n ≡ Some (Some m)) (sym is)
      (subst (λ (k : ℕ). slice_get (graphs ++ Some m ∷ []) k ≡ Some (Some m)) long (get_end graphs (Some m)));
  has = has;
  last = λ k x at w.
      let lt : k < length made = slice_get_within made k (Some x) at in
      let long_made : length made ≡ n + 1 = rw (is, length-append graphs (Some m ∷ []), long) refl in
      omega (arith, lt, long_made);
}

pub draft_none : (forms : List Form) (t : List Ends) → IsDraft forms t 0 [] [] [] []
draft_none forms t = record {
  numbering = record { apart = λ i j x h. absurd (cc h); long = refl; few = omega arith };
  exact = λ p. (λ h. absurd h, λ r. absurd (omega (arith, r.1)));
  each = (refl, λ n m h. absurd (cc h));
  home = λ i g h. absurd (cc h);
  edges = record { sound = λ s h. absurd h; known = λ e r. absurd (omega (arith, r.1)) };
  all = refl;
  listed = tt;
}

-- no point has a graph that comes
pub draft_new : (forms : List Form) (t : List Ends) (n : ℕ) (points : List Point) (homes : List GraphId) (steps : List Step) (graphs : List (Option Members))
    → IsDraft forms t n points homes steps graphs → (i : ℕ) → slice_get homes i ≡ Some (record { 0 = n }) → ⊥
draft_new forms t n points homes steps graphs d i h =
    let home = d.home i (record { 0 = n }) h in
    let lt : n < length graphs = slice_get_within graphs n (Some home.members) home.at in
    absurd (omega (arith, lt, d.each.0))

-- one more node
pub draft_more : (forms : List Form) (t : List Ends) (n : ℕ) (points new_points : List Point) (homes new_homes : List GraphId) (steps new_steps : List Step)
    (graphs made : List (Option Members)) (m : Option Members)
    → IsDraft forms t n points homes steps graphs
    → AddsAt forms t (record { 0 = n }) points new_points homes new_homes steps new_steps m
    → made ≡ graphs ++ m ∷ []
    → IsDraft forms t (n + 1) new_points new_homes new_steps made
draft_more forms t n points new_points homes new_homes steps new_steps graphs made None d a is =
    let root : NodeId = record { 0 = n } in
    let none : HasGraph forms root → ⊥ = has_not forms root a.0 in
    let lower : (r : NodeId) → r.0 < n + 1 → HasGraph forms r → r.0 < n = λ r lt w. elim (last_or_below r.0 n lt) [
      | inl x ↦ x
      | inr e ↦ absurd (none (subst (λ (x : NodeId). HasGraph forms x) (same_node r n e) w))
    ] in
    let here : IsDraft forms t (n + 1) points homes steps made = record {
      numbering = d.numbering;
      exact = λ p. (
        λ h. let r = (d.exact p).0 h in (r.0, omega (arith, r.1), r.2, r.3),
        λ r. (d.exact p).1 (r.0, lower r.0 r.1 r.2, r.2, r.3),
      );
      each = graphs_more forms t points points n graphs made None (λ i p h. h) d.numbering.apart d.exact d.each a.0 is;
      home = λ i g h. home_kept graphs made None (record { 0 = i }) g is (λ x e. absurd (cc e)) (d.home i g h);
      edges = record {
        sound = λ s h. let r = d.edges.sound s h in (r.0, (r.1.0, omega (arith, r.1.1), r.1.2, r.1.3), r.2);
        known = λ e r. d.edges.known e (r.0, lower r.0 r.1 r.2, r.2, r.3);
      };
      all = d.all ∙ ap (λ (l : List Point). added_once same_point [] l) (sym (roots_skip (graph_points forms t) forms n a.0));
      listed = subst (λ (l : List Edge). AreStepsBy points l steps) (sym (roots_skip (graph_edges forms t) forms n a.0)) d.listed;
    } in
    subst (λ (l : List Point). IsDraft forms t (n + 1) l new_homes new_steps made) (sym a.1)
    (subst (λ (l : List GraphId). IsDraft forms t (n + 1) points l new_steps made) (sym a.2)
    (subst (λ (l : List Step). IsDraft forms t (n + 1) points homes l made) (sym a.3) here))
draft_more forms t n points new_points homes new_homes steps new_steps graphs made (Some m) d a is =
    let root : NodeId = record { 0 = n } in
    let adds : Adds forms t root points new_points homes new_homes steps new_steps m = a.1 in
    let has : HasGraph forms root = has_too forms root a.0 in
    record {
      numbering = adds.numbering;
      exact = λ p. (
        λ h. elim ((adds.exact p).0 h) [
          | inl x ↦ let r = (d.exact p).0 x in (r.0, omega (arith, r.1), r.2, r.3)
          | inr y ↦ (root, omega arith, has, y)
        ],
        λ r. (adds.exact p).1 (elim (last_or_below r.0.0 n r.1) [
          | inl lt ↦ inl ((d.exact p).1 (r.0, lt, r.2, r.3))
          | inr e ↦ inr (subst (λ (x : NodeId). IsPointOf forms t x p) (same_node r.0 n e) r.3)
        ]),
      );
      each = graphs_more forms t points new_points n graphs made (Some m) adds.keeps adds.numbering.apart d.exact d.each (a.0, adds.members) is;
      home = λ i g h. homes_more forms t n points new_points homes new_homes steps new_steps graphs made m d adds is i g h (same_or_other g.0 n);
      edges = record {
        sound = λ s h. elim (adds.edges.sound s h) [
          | inl o ↦ let r = d.edges.sound s o in (r.0, (r.1.0, omega (arith, r.1.1), r.1.2, r.1.3), step_kept points new_points r.0 s adds.keeps r.2)
          | inr r ↦ (r.0, (root, omega arith, has, r.1), r.2)
        ];
        known = λ e r. elim (last_or_below r.0.0 n r.1) [
          | inl lt ↦ let k = d.edges.known e (r.0, lt, r.2, r.3) in (k.0, adds.edges.old_stay k.0 k.1, step_kept points new_points e k.0 adds.keeps k.2)
          | inr q ↦ adds.edges.known e (subst (λ (x : NodeId). IsEdgeOf forms t x e) (same_node r.0 n q) r.3)
        ];
      };
      all = adds.all ∙ ap (λ (l : List Point). added_once same_point l (graph_points forms t root)) d.all
          ∙ sym (added_both same_point [] (flat_map (graph_points forms t) (roots_below forms n)) (graph_points forms t root))
          ∙ ap (λ (l : List Point). added_once same_point [] l) (sym (roots_take (graph_points forms t) forms n a.0));
      listed = steps_more forms t n points new_points steps new_steps a.0 adds.keeps d.listed adds.listed;
    }
  where
    same_or_other : (i j : ℕ) → (i ≡ j) ⊎ (i ≡ j → ⊥)
    same_or_other i j = elim (cases_lt i j) [
      | inl lt ↦ inr (λ e. absurd (omega (arith, lt, e)))
      | inr ge ↦ elim (cases_lt j i) [ inl lt ↦ inr (λ e. absurd (omega (arith, lt, e))) | inr le ↦ inl (omega (arith, ge, le)) ]
    ]

    homes_more : (forms : List Form) (t : List Ends) (n : ℕ) (points new_points : List Point) (homes new_homes : List GraphId) (steps new_steps : List Step)
        (graphs made : List (Option Members)) (m : Members)
        → IsDraft forms t n points homes steps graphs → Adds forms t (record { 0 = n }) points new_points homes new_homes steps new_steps m
        → made ≡ graphs ++ Some m ∷ []
        → (i : ℕ) (g : GraphId) → slice_get new_homes i ≡ Some g → (g.0 ≡ n) ⊎ (g.0 ≡ n → ⊥) → IsHome made (record { 0 = i }) g
    homes_more forms t n points new_points homes new_homes steps new_steps graphs made m d adds is i g h (inl e) =
        let same : g ≡ record { 0 = n } = ap (λ (k : ℕ). record { 0 = k }) e in
        let has : Has m.points (record { 0 = i }) = (adds.of.exact (record { 0 = i })).1 (h ∙ ap Some same) in
        subst (λ (x : GraphId). IsHome made (record { 0 = i }) x) (sym same) (home_new graphs made m (record { 0 = i }) n is d.each.0 has)
    homes_more forms t n points new_points homes new_homes steps new_steps graphs made m d adds is i g h (inr ne) =
        let off : g ≡ record { 0 = n } → ⊥ = λ e. ne (ap (λ (x : GraphId). x.0) e) in
        let old : slice_get homes i ≡ Some g = adds.alone i g off h in
        let away : (x : Members) → Some m ≡ Some x → Has x.points (record { 0 = i }) → ⊥ = λ x e w.
        let w_m : Has m.points (record { 0 = i }) = subst (λ (y : Members). Has y.points (record { 0 = i })) (sym (some_members e)) w in
        off (some_graph (sym h ∙ (adds.of.exact (record { 0 = i })).0 w_m)) in
        home_kept graphs made (Some m) (record { 0 = i }) g is away (d.home i g old)
      where
        some_members : {a b : Members} → Some a ≡ Some b → a ≡ b
        some_members e = cc e

        some_graph : {a b : GraphId} → Some a ≡ Some b → a ≡ b
        some_graph e = cc e
