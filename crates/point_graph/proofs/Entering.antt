-- Points come to graphs: what a new mark changes, and that several changes are one.
use Rattle.std.proofs.Common.{◌≡◌, ℕ, ◌<◌, ◌≤◌, ◌+◌, ◌^◌, Bool, true, false, List, [], ◌∷◌, ◌++◌, refl, ap, sym, ◌∙◌, subst, ◌⊎◌, ◌↔◌, inl, inr, arith, length, Some, slice_get, get_or, take, nat_eq, eq-eqb, true≢false}
use borrow.Author.Tests.{eqb-true}
use Rattle.std.proofs.lemmas.List.{take_more}
use Rattle.py_base.specs.declared.ids.GraphId.{GraphId}
use Rattle.py_base.specs.declared.ids.PointId.{PointId}
use Rattle.flow_rows.specs.declared.point.Point.{Point}
use Rattle.flow_rows.specs.declared.edge.Edge.{Edge}
use Rattle.flow_rows.specs.Flow.{Has}
use Rattle.flow_rows.proofs.Flowing.{has_split, has_left, has_right}
use Rattle.point_graph.specs.declared.numbers.Step.{Step}
use Rattle.point_graph.specs.Numbers.{IsApart, Keeps, IsNumber, IsStep}
use Rattle.point_graph.specs.Building.{GrowsTo, IsListOf, TakesAlone, IsNumbering, Enters, Joins, AreMore}
use Rattle.point_graph.proofs.Keys.{has_at, place_of, push_cases}
use Rattle.point_graph.proofs.Steps.{same_id, no_edge}

-- what a list has, a list that keeps its places has
pub has_kept : {A : Type 0} (old new : List A) (x : A) → Keeps old new → Has old x → Has new x
has_kept old new x kept h = let r = place_of old x h in has_at new r.0 x (kept r.0 x r.1)

-- two numbers are equal or not
pub same_or_not : (i j : ℕ) → (i ≡ j) ⊎ (i ≡ j → ⊥)
same_or_not i j = go (nat_eq i j) refl
  where
    go : (b : Bool) → nat_eq i j ≡ b → (i ≡ j) ⊎ (i ≡ j → ⊥)
    go true h = inl (eqb-true i j h)
    go false h = inr (λ e. true≢false (sym (eq-eqb i j e) ∙ h))

-- a graph takes a point that it doesn't have
pub marked : (homes new : List GraphId) (list new_list : List PointId) (id : PointId) (graph : GraphId)
    → IsListOf homes graph list → (slice_get homes id.0 ≡ Some graph → ⊥)
    → slice_get new id.0 ≡ Some graph → ((i : ℕ) → (i ≡ id.0 → ⊥) → slice_get new i ≡ slice_get homes i)
    → new_list ≡ list ++ id ∷ [] → IsListOf new graph new_list
marked homes new list new_list id graph of away here elsewhere is =
    let off : (x : PointId) → Has list x → x.0 ≡ id.0 → ⊥ = λ x h e. away (subst (λ (n : ℕ). slice_get homes n ≡ Some graph) e ((of.exact x).0 h)) in
    let forth : (x : PointId) → Has (list ++ id ∷ []) x → slice_get new x.0 ≡ Some graph = λ x h. elim (has_split list (id ∷ []) x h) [
      | inl a ↦ elsewhere x.0 (off x a) ∙ (of.exact x).0 a
      | inr b ↦ elim b [ inl e ↦ subst (λ (y : PointId). slice_get new y.0 ≡ Some graph) e here | inr never ↦ absurd never ]
    ] in
    let back : (x : PointId) → slice_get new x.0 ≡ Some graph → Has (list ++ id ∷ []) x = λ x h. elim (same_or_not x.0 id.0) [
      | inl e ↦ has_right list (id ∷ []) x (inl (same_id id x (sym e)))
      | inr ne ↦ has_left list (id ∷ []) x ((of.exact x).1 (sym (elsewhere x.0 ne) ∙ h))
    ] in
    let once : IsApart (list ++ id ∷ []) = λ i j x hi hj. elim (push_cases list id x i hi) [
      | inl a ↦ elim (push_cases list id x j hj) [
        | inl b ↦ of.once i j x a b
        | inr b ↦ absurd (off x (has_at list i x a) (ap (λ (y : PointId). y.0) (sym b.1)))
      ]
      | inr a ↦ elim (push_cases list id x j hj) [
        | inl b ↦ absurd (off x (has_at list j x b) (ap (λ (y : PointId). y.0) (sym a.1)))
        | inr b ↦ a.0 ∙ sym b.0
      ]
    ] in
    record {
      exact = λ x. (
        λ h. forth x (subst (λ (l : List PointId). Has l x) is h),
        λ h. subst (λ (l : List PointId). Has l x) (sym is) (back x h),
      );
      once = subst (λ (l : List PointId). IsApart l) (sym is) once;
    }

pub marked_alone : (homes new : List GraphId) (id : PointId) (graph : GraphId)
    → slice_get new id.0 ≡ Some graph → ((i : ℕ) → (i ≡ id.0 → ⊥) → slice_get new i ≡ slice_get homes i)
    → TakesAlone graph homes new
marked_alone homes new id graph here elsewhere i g ne h = elim (same_or_not i id.0) [
  | inl e ↦ absurd (ne (some_graph (sym h ∙ ap (λ (n : ℕ). slice_get new n) e ∙ here)))
  | inr off ↦ sym (elsewhere i off) ∙ h
]
  where
    some_graph : {a b : GraphId} → Some a ≡ Some b → a ≡ b
    some_graph e = cc e

pub marked_list : (list new_list : List PointId) (id : PointId) → new_list ≡ list ++ id ∷ [] → (x : PointId) → Has new_list x ↔ (Has list x ⊎ (id ≡ x))
marked_list list new_list id is x = (
  λ h. elim (has_split list (id ∷ []) x (subst (λ (l : List PointId). Has l x) is h)) [
    | inl a ↦ inl a
    | inr b ↦ elim b [ inl e ↦ inr e | inr never ↦ absurd never ]
  ],
  λ h. subst (λ (l : List PointId). Has l x) (sym is) (elim h [ inl a ↦ has_left list (id ∷ []) x a | inr e ↦ has_right list (id ∷ []) x (inl e) ]),
)

-- a graph has the point already
pub there_list : (homes : List GraphId) (list : List PointId) (id : PointId) (graph : GraphId) → IsListOf homes graph list → slice_get homes id.0 ≡ Some graph
    → (x : PointId) → Has list x ↔ (Has list x ⊎ (id ≡ x))
there_list homes list id graph of home x = (
  λ h. inl h,
  λ h. elim h [ inl a ↦ a | inr e ↦ subst (λ (y : PointId). Has list y) e ((of.exact id).1 home) ],
)

-- points and graphs of points grow alike
pub grow_alike : (a b c d at : ℕ) → a ≡ c → GrowsTo a b at → GrowsTo c d at → b ≡ d
grow_alike a b c d at same one two = elim one [
  | inl x ↦ elim two [ inl y ↦ x.0 ∙ same ∙ sym y.0 | inr y ↦ absurd (omega (arith, x.1, y.1, same)) ]
  | inr x ↦ elim two [ inl y ↦ absurd (omega (arith, x.1, y.1, same)) | inr y ↦ x.0 ∙ ap (λ (n : ℕ). n + 1) same ∙ sym y.0 ]
]

pub grows_within : (old new at : ℕ) → GrowsTo old new at → at ≤ old
grows_within old new at g = elim g [ inl x ↦ omega (arith, x.1) | inr x ↦ omega (arith, x.1) ]

-- a point is entered
pub entered : (graph : GraphId) (point : Point) (points new_points : List Point) (homes new_homes : List GraphId) (list new_list : List PointId) (id : PointId)
    → IsNumbering points homes
    → IsNumber new_points id point
    → ((p : Point) → Has new_points p ↔ (Has points p ⊎ (point ≡ p)))
    → Keeps points new_points → IsApart new_points
    → GrowsTo (length points) (length new_points) id.0 → length new_points < 2 ^ 32
    → IsListOf new_homes graph new_list → TakesAlone graph homes new_homes
    → ((x : PointId) → Has new_list x ↔ (Has list x ⊎ (id ≡ x)))
    → Keeps list new_list → GrowsTo (length homes) (length new_homes) id.0
    → Enters graph (λ p. point ≡ p) points new_points homes new_homes list new_list
entered graph point points new_points homes new_homes list new_list id was at exact keeps apart grows few of alone listed list_keeps homes_grow = record {
  numbering = record {
    apart = apart;
    long = grow_alike (length homes) (length new_homes) (length points) (length new_points) id.0 was.long homes_grow grows;
    few = few;
  };
  keeps = keeps;
  exact = exact;
  alone = alone;
  of = of;
  list_keeps = list_keeps;
  sound = λ x h. elim ((listed x).0 h) [ inl a ↦ inl a | inr e ↦ inr (point, subst (λ (y : PointId). IsNumber new_points y point) e at, refl) ];
  known = λ p e. (id, (listed id).1 (inr refl), subst (λ (q : Point). IsNumber new_points id q) e at);
}

pub enters_none : (graph : GraphId) (IsOne : Point → Type 0) (points : List Point) (homes : List GraphId) (list : List PointId)
    → IsNumbering points homes → IsListOf homes graph list → ((p : Point) → IsOne p → ⊥) → Enters graph IsOne points points homes homes list list
enters_none graph IsOne points homes list was of none = record {
  numbering = was;
  keeps = λ i p h. h;
  exact = λ p. (λ h. inl h, λ h. elim h [ inl a ↦ a | inr b ↦ absurd (none p b) ]);
  alone = λ i g ne h. h;
  of = of;
  list_keeps = λ i x h. h;
  sound = λ x h. inl h;
  known = λ p b. absurd (none p b);
}

pub enters_both : (graph : GraphId) (IsOne IsTwo : Point → Type 0) (points middle_points new_points : List Point) (homes middle_homes new_homes : List GraphId)
    (list middle_list new_list : List PointId)
    → Enters graph IsOne points middle_points homes middle_homes list middle_list
    → Enters graph IsTwo middle_points new_points middle_homes new_homes middle_list new_list
    → Enters graph (λ p. IsOne p ⊎ IsTwo p) points new_points homes new_homes list new_list
enters_both graph IsOne IsTwo points middle_points new_points homes middle_homes new_homes list middle_list new_list a b = record {
  numbering = b.numbering;
  keeps = λ i p h. b.keeps i p (a.keeps i p h);
  exact = λ p. (
    λ h. elim ((b.exact p).0 h) [ inl m ↦ elim ((a.exact p).0 m) [ inl x ↦ inl x | inr y ↦ inr (inl y) ] | inr y ↦ inr (inr y) ],
    λ h. (b.exact p).1 (elim h [ inl x ↦ inl ((a.exact p).1 (inl x)) | inr y ↦ elim y [ inl u ↦ inl ((a.exact p).1 (inr u)) | inr v ↦ inr v ] ]),
  );
  alone = λ i g ne h. a.alone i g ne (b.alone i g ne h);
  of = b.of;
  list_keeps = λ i x h. b.list_keeps i x (a.list_keeps i x h);
  sound = λ x h. elim (b.sound x h) [
    | inl m ↦ elim (a.sound x m) [ inl o ↦ inl o | inr r ↦ inr (r.0, b.keeps x.0 r.0 r.1, inl r.2) ]
    | inr r ↦ inr (r.0, r.1, inr r.2)
  ];
  known = λ p h. elim h [
    | inl u ↦ let r = a.known p u in (r.0, has_kept middle_list new_list r.0 b.list_keeps r.1, b.keeps r.0.0 p r.2)
    | inr v ↦ b.known p v
  ];
}

pub enters_as : (graph : GraphId) (IsOne IsTwo : Point → Type 0) (points new_points : List Point) (homes new_homes : List GraphId) (list new_list : List PointId)
    → ((p : Point) → IsOne p ↔ IsTwo p)
    → Enters graph IsOne points new_points homes new_homes list new_list → Enters graph IsTwo points new_points homes new_homes list new_list
enters_as graph IsOne IsTwo points new_points homes new_homes list new_list same a = record {
  numbering = a.numbering;
  keeps = a.keeps;
  exact = λ p. (
    λ h. elim ((a.exact p).0 h) [ inl x ↦ inl x | inr y ↦ inr ((same p).0 y) ],
    λ h. (a.exact p).1 (elim h [ inl x ↦ inl x | inr y ↦ inr ((same p).1 y) ]),
  );
  alone = a.alone;
  of = a.of;
  list_keeps = a.list_keeps;
  sound = λ x h. elim (a.sound x h) [ inl o ↦ inl o | inr r ↦ inr (r.0, r.1, (same r.0).0 r.2) ];
  known = λ p h. a.known p ((same p).1 h);
}

-- the points that one more edge joins
pub joins_more : (edges : List Edge) (i : ℕ) (p : Point) → i < length edges
    → ((Joins (take i edges) p ⊎ ((get_or edges i no_edge).from ≡ p)) ⊎ ((get_or edges i no_edge).to ≡ p)) ↔ Joins (take (i + 1) edges) p
joins_more edges i p lt =
    let e : Edge = get_or edges i no_edge in
    let is : take (i + 1) edges ≡ take i edges ++ e ∷ [] = take_more edges i no_edge lt in
    let last : Has (take i edges ++ e ∷ []) e = has_right (take i edges) (e ∷ []) e (inl refl) in (
      λ h. subst (λ (l : List Edge). Joins l p) (sym is) (elim h [
        | inl b ↦ elim b [ inl r ↦ (r.0, has_left (take i edges) (e ∷ []) r.0 r.1, r.2) | inr same ↦ (e, last, inl same) ]
        | inr same ↦ (e, last, inr same)
      ]),
      λ w. let r : Joins (take i edges ++ e ∷ []) p = subst (λ (l : List Edge). Joins l p) is w in
          elim (has_split (take i edges) (e ∷ []) r.0 r.1) [
            | inl a ↦ inl (inl (r.0, a, r.2))
            | inr b ↦ elim b [
              | inl same ↦ elim r.2 [
                | inl f ↦ inl (inr (ap (λ (x : Edge). x.from) same ∙ f))
                | inr g ↦ inr (ap (λ (x : Edge). x.to) same ∙ g)
              ]
              | inr never ↦ absurd never
            ]
          ],
    )

pub step_kept : (points new_points : List Point) (e : Edge) (s : Step) → Keeps points new_points → IsStep points e s → IsStep new_points e s
step_kept points new_points e s kept h = record { from = kept s.from.0 e.from h.from; to = kept s.to.0 e.to h.to; kind = h.kind }

pub more_none : (points : List Point) (edges : List Edge) (steps : List Step) → AreMore points (Has (take 0 edges)) steps steps
more_none points edges steps = record { old_stay = λ s h. h; sound = λ s h. inl h; known = λ e h. absurd h }

-- one more step
pub more_step : (points new_points : List Point) (edges : List Edge) (i : ℕ) (steps middle new_steps : List Step) (s : Step)
    → i < length edges → Keeps points new_points → AreMore points (Has (take i edges)) steps middle
    → IsStep new_points (get_or edges i no_edge) s → new_steps ≡ middle ++ s ∷ []
    → AreMore new_points (Has (take (i + 1) edges)) steps new_steps
more_step points new_points edges i steps middle new_steps s lt kept so_far one is =
    let e : Edge = get_or edges i no_edge in
    let grown : take (i + 1) edges ≡ take i edges ++ e ∷ [] = take_more edges i no_edge lt in
    let had : (x : Edge) → Has (take i edges) x → Has (take (i + 1) edges) x
    = λ x h. subst (λ (l : List Edge). Has l x) (sym grown) (has_left (take i edges) (e ∷ []) x h) in
    let last : Has (take (i + 1) edges) e = subst (λ (l : List Edge). Has l e) (sym grown) (has_right (take i edges) (e ∷ []) e (inl refl)) in
    let up : (x : Step) → Has middle x → Has new_steps x = λ x h. subst (λ (l : List Step). Has l x) (sym is) (has_left middle (s ∷ []) x h) in
    let top : Has new_steps s = subst (λ (l : List Step). Has l s) (sym is) (has_right middle (s ∷ []) s (inl refl)) in
    record {
      old_stay = λ x h. up x (so_far.old_stay x h);
      sound = λ x h. elim (has_split middle (s ∷ []) x (subst (λ (l : List Step). Has l x) is h)) [
        | inl a ↦ elim (so_far.sound x a) [ inl o ↦ inl o | inr r ↦ inr (r.0, had r.0 r.1, step_kept points new_points r.0 x kept r.2) ]
        | inr b ↦ elim b [
          | inl same ↦ inr (e, last, subst (λ (y : Step). IsStep new_points e y) same one)
          | inr never ↦ absurd never
        ]
      ];
      known = λ x h. elim (has_split (take i edges) (e ∷ []) x (subst (λ (l : List Edge). Has l x) grown h)) [
        | inl a ↦ let r = so_far.known x a in (r.0, up r.0 r.1, step_kept points new_points x r.0 kept r.2)
        | inr b ↦ elim b [
          | inl same ↦ (s, top, subst (λ (y : Edge). IsStep new_points y s) same one)
          | inr never ↦ absurd never
        ]
      ];
    }
