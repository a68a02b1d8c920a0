-- What the rows, the exits and the parts of a form give, taken together, are its edges.
use Rattle.std.proofs.Common.{◌≡◌, ℕ, zero, suc, ◌<◌, ◌≤◌, Bool, true, false, true≢false, cond, nat_lt, List, [], ◌∷◌, ◌++◌, append_assoc, append-nil, refl, ap, sym, ◌∙◌, subst, ◌⊎◌, ◌↔◌, inl, inr, arith, ◌+◌, get_or, take, length}
use Rattle.std.specs.List.{flat_map}
use Rattle.std.proofs.lemmas.List.{take_more, take_all, flat_map_more}
use Rattle.std.proofs.lemmas.Bool.{ltb-true, lt-ltb, le-ltb}
use Rattle.py_base.specs.declared.ids.NodeId.{NodeId}
use Rattle.flow_rows.specs.declared.point.Point.{Point}
use Rattle.flow_rows.specs.declared.edge.Edge.{Edge}
use Rattle.flow_rows.specs.declared.edge.EdgeKind.{EdgeKind}
use Rattle.flow_rows.specs.declared.route.Channel.{Channel}
use Rattle.flow_rows.specs.declared.route.Dest.{Dest}
use Rattle.flow_rows.specs.declared.route.Dest.TheVariants.{To, Up}
use Rattle.flow_rows.specs.declared.route.Exit.{Exit}
use Rattle.flow_rows.specs.declared.route.Kid.{Kid}
use Rattle.flow_rows.specs.declared.route.Row.{Row}
use Rattle.flow_rows.specs.declared.route.Mode.{Mode}
use Rattle.flow_rows.specs.declared.route.Mode.TheVariants.{Value, Body}
use Rattle.flow_rows.specs.declared.route.Route.TheVariants.{Through}
use Rattle.flow_rows.specs.declared.form.Form.{Form}
use Rattle.flow_rows.specs.Points.{edge}
use Rattle.flow_rows.specs.Routes.{leads, places, arrows_to, exit}
use Rattle.flow_rows.specs.declared.ends.Ends.{Ends}
use Rattle.flow_rows.specs.Flow.{Has, row_at, Leaves, of_own, of_part, Flows, by_own, by_part, by_exit, IsEdgeOf}
use Rattle.flow_rows.specs.Edges.{left, inside, part_edges, row_edges, edges_within, edges_around, nowhere, graph_edges}
use Rattle.flow_rows.specs.Around.{Around, Parts}

pub has_split : {A : Type 0} (xs ys : List A) (x : A) → Has (xs ++ ys) x → Has xs x ⊎ Has ys x
has_split [] ys x h = inr h
has_split (z ∷ xs) ys x (inl e) = inl (inl e)
has_split (z ∷ xs) ys x (inr h) = elim (has_split xs ys x h) [ inl p ↦ inl (inr p) | inr q ↦ inr q ]

pub has_left : {A : Type 0} (xs ys : List A) (x : A) → Has xs x → Has (xs ++ ys) x
has_left [] ys x h = absurd h
has_left (z ∷ xs) ys x (inl e) = inl e
has_left (z ∷ xs) ys x (inr h) = inr (has_left xs ys x h)

pub has_right : {A : Type 0} (xs ys : List A) (x : A) → Has ys x → Has (xs ++ ys) x
has_right [] ys x h = h
has_right (z ∷ xs) ys x h = inr (has_right xs ys x h)

-- the edges to some points
pub to_split : (a : Point) (kind : EdgeKind) (ps : List Point) (e : Edge) → Has (arrows_to a kind ps) e
    → (a ≡ e.from) × (kind ≡ e.kind) × Has ps e.to
to_split a kind [] e h = absurd h
to_split a kind (p ∷ ps) e (inl h) = (ap (λ (x : Edge). x.from) h, ap (λ (x : Edge). x.kind) h, inl (ap (λ (x : Edge). x.to) h))
to_split a kind (p ∷ ps) e (inr h) = let r = to_split a kind ps e h in (r.0, r.1, inr r.2)

pub to_join : (a b : Point) (kind : EdgeKind) (ps : List Point) → Has ps b → Has (arrows_to a kind ps) (edge a b kind)
to_join a b kind [] h = absurd h
to_join a b kind (p ∷ ps) (inl h) = inl (ap (λ (x : Point). edge a x kind) h)
to_join a b kind (p ∷ ps) (inr h) = inr (to_join a b kind ps h)

exit_same : (x : Exit) (a : Point) (kind : EdgeKind) → x.from ≡ a → x.kind ≡ kind → x ≡ exit x.channel a kind
exit_same x a kind p q =
    subst (λ (b : Point). x ≡ exit x.channel b kind) p (subst (λ (k : EdgeKind). x ≡ exit x.channel x.from k) q refl)

-- the edges from a form's own exits
pub left_split : (reach : Channel → List Point) (xs : List Exit) (e : Edge) → Has (left reach xs) e
    → (channel : Channel) × Has xs (exit channel e.from e.kind) × Has (reach channel) e.to
left_split reach [] e h = absurd h
left_split reach (x ∷ xs) e h = elim (has_split (arrows_to x.from x.kind (reach x.channel)) (left reach xs) e h) [
  | inl p ↦ let r = to_split x.from x.kind (reach x.channel) e p in (x.channel, inl (exit_same x e.from e.kind r.0 r.1), r.2)
  | inr q ↦ let r = left_split reach xs e q in (r.0, inr r.1, r.2)
]

pub left_join : (reach : Channel → List Point) (xs : List Exit) (channel : Channel) (a b : Point) (kind : EdgeKind)
    → Has xs (exit channel a kind) → Has (reach channel) b → Has (left reach xs) (edge a b kind)
left_join reach [] channel a b kind h w = absurd h
left_join reach (x ∷ xs) channel a b kind (inl h) w =
    has_left (arrows_to x.from x.kind (reach x.channel)) (left reach xs) _
    (subst (λ (y : Exit). Has (arrows_to y.from y.kind (reach y.channel)) (edge a b kind)) (sym h) (to_join a b kind (reach channel) w))
left_join reach (x ∷ xs) channel a b kind (inr h) w =
    has_right (arrows_to x.from x.kind (reach x.channel)) (left reach xs) _ (left_join reach xs channel a b kind h w)

-- the points that a place stands for
pub places_split : (ds : List Dest) (reach : Channel → List Point) (b : Point) → Has (places ds reach) b
    → Has ds (To b) ⊎ ((channel : Channel) × Has ds (Up channel) × Has (reach channel) b)
places_split [] reach b h = absurd h
places_split (To p ∷ ds) reach b (inl h) = inl (inl (ap To h))
places_split (To p ∷ ds) reach b (inr h) = elim (places_split ds reach b h) [ inl u ↦ inl (inr u) | inr v ↦ inr (v.0, inr v.1, v.2) ]
places_split (Up channel ∷ ds) reach b h = elim (has_split (reach channel) (places ds reach) b h) [
  | inl p ↦ inr (channel, inl refl, p)
  | inr q ↦ elim (places_split ds reach b q) [ inl u ↦ inl (inr u) | inr v ↦ inr (v.0, inr v.1, v.2) ]
]

pub places_to : (ds : List Dest) (reach : Channel → List Point) (b : Point) → Has ds (To b) → Has (places ds reach) b
places_to [] reach b h = absurd h
places_to (To p ∷ ds) reach b (inl h) = inl (cc)
places_to (To p ∷ ds) reach b (inr h) = inr (places_to ds reach b h)
places_to (Up channel ∷ ds) reach b (inl h) = absurd (cc)
places_to (Up channel ∷ ds) reach b (inr h) = has_right (reach channel) (places ds reach) b (places_to ds reach b h)

pub places_up : (ds : List Dest) (reach : Channel → List Point) (b : Point) (channel : Channel)
    → Has ds (Up channel) → Has (reach channel) b → Has (places ds reach) b
places_up [] reach b channel h w = absurd h
places_up (To p ∷ ds) reach b channel (inl h) w = absurd (cc)
places_up (To p ∷ ds) reach b channel (inr h) w = inr (places_up ds reach b channel h w)
places_up (Up inner ∷ ds) reach b channel (inl h) w =
    has_left (reach inner) (places ds reach) b (let same : channel ≡ inner = cc in subst (λ (x : Channel). Has (reach x) b) same w)
places_up (Up inner ∷ ds) reach b channel (inr h) w = has_right (reach inner) (places ds reach) b (places_up ds reach b channel h w)

-- the edges of the parts
pub parts_split : (forms : List Form) (t : List Ends) (n : NodeId) (reach : Channel → List Point) (kids : List Kid) (e : Edge)
    → Parts forms t n reach kids e
    → (kid : Kid) × Has kids kid × (kid.node.0 < n.0) × Around forms t kid.node kid.copy kid.mode (inside kid.route reach) e
parts_split forms t n reach [] e h = absurd h
parts_split forms t n reach (kid ∷ kids) e (inl h) = (kid, inl refl, h.0, h.1)
parts_split forms t n reach (kid ∷ kids) e (inr h) = let r = parts_split forms t n reach kids e h in (r.0, inr r.1, r.2, r.3)

pub parts_join : (forms : List Form) (t : List Ends) (n : NodeId) (reach : Channel → List Point) (kids : List Kid) (e : Edge) (kid : Kid)
    → Has kids kid → kid.node.0 < n.0 → Around forms t kid.node kid.copy kid.mode (inside kid.route reach) e
    → Parts forms t n reach kids e
parts_join forms t n reach [] e kid h lt w = absurd h
parts_join forms t n reach (k ∷ kids) e kid (inl h) lt w =
    inl (subst (λ (x : Kid). (x.node.0 < n.0) × Around forms t x.node x.copy x.mode (inside x.route reach) e) (sym h) (lt, w))
parts_join forms t n reach (k ∷ kids) e kid (inr h) lt w = inr (parts_join forms t n reach kids e kid h lt w)

-- a form's edges are its own, those from its own exits, and those of its parts
abbrev pub Whole : List Form → List Ends → NodeId → ℕ → Mode → (Channel → List Point) → Edge → Type 0
Whole forms t n c m reach e =
    Has (row_at forms t n c m).arrows e ⊎ (Has (left reach (row_at forms t n c m).exits) e ⊎ Parts forms t n reach (row_at forms t n c m).kids e)

flows_split : (forms : List Form) (t : List Ends) (n : NodeId) (c : ℕ) (m : Mode) (reach : Channel → List Point) (a b : Point) (kind : EdgeKind)
    → Flows forms t n c m a b kind → Whole forms t n c m reach (edge a b kind)
flows_split forms t n c m reach a b kind (by_own h) = inl h
flows_split forms t n c m reach a b kind (by_part kid h lt f) = inr (inr (parts_join forms t n reach _ (edge a b kind) kid h lt (inl f)))
flows_split forms t n c m reach a b kind (by_exit kid inner h lt l w) =
    inr (inr (parts_join forms t n reach _ (edge a b kind) kid h lt (inr (inner, l, places_to (leads kid.route inner) reach b w))))

leaves_split : (forms : List Form) (t : List Ends) (n : NodeId) (c : ℕ) (m : Mode) (reach : Channel → List Point) (channel : Channel) (a b : Point) (kind : EdgeKind)
    → Leaves forms t n c m channel a kind → Has (reach channel) b → Whole forms t n c m reach (edge a b kind)
leaves_split forms t n c m reach channel a b kind (of_own h) w = inr (inl (left_join reach _ channel a b kind h w))
leaves_split forms t n c m reach channel a b kind (of_part kid inner h lt l u) w =
    inr (inr (parts_join forms t n reach _ (edge a b kind) kid h lt (inr (inner, l, places_up (leads kid.route inner) reach b channel u w))))

pub whole_split : (forms : List Form) (t : List Ends) (n : NodeId) (c : ℕ) (m : Mode) (reach : Channel → List Point) (e : Edge)
    → Around forms t n c m reach e → Whole forms t n c m reach e
whole_split forms t n c m reach e (inl f) = flows_split forms t n c m reach e.from e.to e.kind f
whole_split forms t n c m reach e (inr l) = leaves_split forms t n c m reach l.0 e.from e.to e.kind l.1 l.2

pub whole_join : (forms : List Form) (t : List Ends) (n : NodeId) (c : ℕ) (m : Mode) (reach : Channel → List Point) (e : Edge)
    → Whole forms t n c m reach e → Around forms t n c m reach e
whole_join forms t n c m reach e (inl h) = inl (by_own h)
whole_join forms t n c m reach e (inr (inl h)) = let r = left_split reach _ e h in inr (r.0, of_own r.1, r.2)
whole_join forms t n c m reach e (inr (inr h)) =
    let r = parts_split forms t n reach _ e h in
    elim r.3 [
      | inl f ↦ inl (by_part r.0 r.1 r.2 f)
      | inr l ↦ elim (places_split (leads r.0.route l.0) reach e.to l.2) [
        | inl to ↦ inl (by_exit r.0 l.0 r.1 r.2 l.1 to)
        | inr up ↦ inr (up.0, of_part r.0 l.0 r.1 r.2 l.1 up.1, up.2)
      ]
    ]

-- the depth doesn't matter, where it is enough
parts_same : (f g : NodeId → ℕ → Mode → (Channel → List Point) → List Edge) (n : NodeId) (reach : Channel → List Point) (kids : List Kid)
    → ((k : NodeId) (c : ℕ) (m : Mode) (r : Channel → List Point) → k.0 < n.0 → f k c m r ≡ g k c m r)
    → flat_map (part_edges f n reach) kids ≡ flat_map (part_edges g n reach) kids
parts_same f g n reach [] same = refl
parts_same f g n reach (kid ∷ more) same =
    ap (λ (x : List Edge). x ++ flat_map (part_edges f n reach) more) (part_same (nat_lt kid.node.0 n.0) refl)
    ∙ ap (λ (x : List Edge). part_edges g n reach kid ++ x) (parts_same f g n reach more same)
  where
    part_same : (b : Bool) → nat_lt kid.node.0 n.0 ≡ b
        → cond (nat_lt kid.node.0 n.0) (f kid.node kid.copy kid.mode (inside kid.route reach)) []
        ≡ cond (nat_lt kid.node.0 n.0) (g kid.node kid.copy kid.mode (inside kid.route reach)) []
    part_same true e = rw e (same kid.node kid.copy kid.mode (inside kid.route reach) (ltb-true kid.node.0 n.0 e))
    part_same false e = rw e refl

depth_same : (j k : ℕ) (forms : List Form) (t : List Ends) (n : NodeId) (c : ℕ) (m : Mode) (reach : Channel → List Point) → n.0 < j → n.0 < k
    → edges_within j forms t n c m reach ≡ edges_within k forms t n c m reach
depth_same zero k forms t n c m reach lt gt = absurd (omega (arith, lt))
depth_same (suc j) zero forms t n c m reach lt gt = absurd (omega (arith, gt))
depth_same (suc j) (suc k) forms t n c m reach lt gt =
    ap (λ (x : List Edge). (row_at forms t n c m).arrows ++ left reach (row_at forms t n c m).exits ++ x)
    (parts_same (edges_within j forms t) (edges_within k forms t) n reach (row_at forms t n c m).kids
    (λ p d o r less. depth_same j k forms t p d o r (omega (arith, lt, less)) (omega (arith, gt, less))))

pub around_rows : (forms : List Form) (t : List Ends) (n : NodeId) (c : ℕ) (m : Mode) (reach : Channel → List Point)
    → edges_around forms t n c m reach ≡ row_edges (edges_around forms t) n reach (row_at forms t n c m)
unfolding edges_around
around_rows forms t n c m reach =
    ap (λ (x : List Edge). (row_at forms t n c m).arrows ++ left reach (row_at forms t n c m).exits ++ x)
    (parts_same (edges_within n.0 forms t) (λ p d o r. edges_within (suc p.0) forms t p d o r) n reach (row_at forms t n c m).kids
    (λ p d o r less. depth_same n.0 (suc p.0) forms t p d o r less (omega arith)))

abbrev pub no_kid : Kid
no_kid = record { node = record { 0 = 0 }; copy = 0; mode = Value; route = Through }

-- the edges of the list are those of the flow
part_listed : (forms : List Form) (t : List Ends) (f : NodeId → ℕ → Mode → (Channel → List Point) → List Edge) (n : NodeId) (reach : Channel → List Point) (e : Edge) (kid : Kid)
    → (kid.node.0 < n.0 → Has (f kid.node kid.copy kid.mode (inside kid.route reach)) e ↔ Around forms t kid.node kid.copy kid.mode (inside kid.route reach) e)
    → Has (part_edges f n reach kid) e ↔ ((kid.node.0 < n.0) × Around forms t kid.node kid.copy kid.mode (inside kid.route reach) e)
part_listed forms t f n reach e kid known = go (nat_lt kid.node.0 n.0) refl
  where
    go : (b : Bool) → nat_lt kid.node.0 n.0 ≡ b
        → Has (cond b (f kid.node kid.copy kid.mode (inside kid.route reach)) []) e ↔ ((kid.node.0 < n.0) × Around forms t kid.node kid.copy kid.mode (inside kid.route reach) e)
    go true q = (λ h. (ltb-true kid.node.0 n.0 q, (known (ltb-true kid.node.0 n.0 q)).0 h), λ h. (known h.0).1 h.1)
    go false q = (λ h. absurd h, λ h. absurd (true≢false (sym (lt-ltb kid.node.0 n.0 h.0) ∙ q)))

parts_listed : (forms : List Form) (t : List Ends) (f : NodeId → ℕ → Mode → (Channel → List Point) → List Edge) (n : NodeId) (reach : Channel → List Point) (e : Edge) (kids : List Kid)
    → ((k : NodeId) (c : ℕ) (m : Mode) (r : Channel → List Point) → k.0 < n.0 → Has (f k c m r) e ↔ Around forms t k c m r e)
    → Has (flat_map (part_edges f n reach) kids) e ↔ Parts forms t n reach kids e
parts_listed forms t f n reach e [] known = (λ h. h, λ h. h)
parts_listed forms t f n reach e (kid ∷ more) known =
    let one = part_listed forms t f n reach e kid (known kid.node kid.copy kid.mode (inside kid.route reach)) in
    let rest = parts_listed forms t f n reach e more known in (
      λ h. elim (has_split (part_edges f n reach kid) (flat_map (part_edges f n reach) more) e h) [ inl p ↦ inl (one.0 p) | inr q ↦ inr (rest.0 q) ],
      λ h. elim h [ inl p ↦ has_left (part_edges f n reach kid) _ e (one.1 p) | inr q ↦ has_right (part_edges f n reach kid) _ e (rest.1 q) ],
    )

listed_within : (left : ℕ) (forms : List Form) (t : List Ends) (n : NodeId) (c : ℕ) (m : Mode) (reach : Channel → List Point) (e : Edge) → n.0 < left
    → Has (edges_within left forms t n c m reach) e ↔ Around forms t n c m reach e
listed_within zero forms t n c m reach e lt = absurd (omega (arith, lt))
listed_within (suc depth) forms t n c m reach e lt =
    let row : Row = row_at forms t n c m in
    let parts = parts_listed forms t (edges_within depth forms t) n reach e row.kids (λ k d o r less. listed_within depth forms t k d o r e (omega (arith, lt, less))) in (
      λ h. whole_join forms t n c m reach e (elim (has_split (row.arrows ++ left reach row.exits) _ e h) [
        | inl p ↦ elim (has_split row.arrows (left reach row.exits) e p) [ inl a ↦ inl a | inr x ↦ inr (inl x) ]
        | inr q ↦ inr (inr (parts.0 q))
      ]),
      λ h. elim (whole_split forms t n c m reach e h) [
        | inl a ↦ has_left (row.arrows ++ left reach row.exits) _ e (has_left row.arrows _ e a)
        | inr v ↦ elim v [
          | inl x ↦ has_left (row.arrows ++ left reach row.exits) _ e (has_right row.arrows _ e x)
          | inr p ↦ has_right (row.arrows ++ left reach row.exits) _ e (parts.1 p)
        ]
      ],
    )

-- an edge that leads out of a graph leads nowhere
pub graph_listed : (forms : List Form) (t : List Ends) (root : NodeId) (e : Edge) → Has (graph_edges forms t root) e ↔ IsEdgeOf forms t root e
unfolding edges_around
graph_listed forms t root e =
    let all = listed_within (suc root.0) forms t root 0 Body nowhere e (omega arith) in
    (λ h. elim (all.0 h) [ inl f ↦ f | inr l ↦ absurd l.2 ], λ h. all.1 (inl h))

-- one more part
pub part_taken : (forms : List Form) (t : List Ends) (n : NodeId) (reach : Channel → List Point) (kids : List Kid) (i : ℕ) (start before after : List Edge)
    → i < length kids → before ≡ start ++ flat_map (part_edges (edges_around forms t) n reach) (take i kids)
    → after ≡ before ++ part_edges (edges_around forms t) n reach (get_or kids i no_kid)
    → after ≡ start ++ flat_map (part_edges (edges_around forms t) n reach) (take (i + 1) kids)
part_taken forms t n reach kids i start before after lt told is =
    let f : Kid → List Edge = part_edges (edges_around forms t) n reach in
    is ∙ ap (λ (x : List Edge). x ++ f (get_or kids i no_kid)) told ∙ flat_map_more f start (take i kids) (get_or kids i no_kid)
    ∙ ap (λ (x : List Kid). start ++ flat_map f x) (sym (take_more kids i no_kid lt))

pub part_there : (forms : List Form) (t : List Ends) (n : NodeId) (reach : Channel → List Point) (kid : Kid) (before after : List Edge)
    → kid.node.0 < n.0 → after ≡ before ++ edges_around forms t kid.node kid.copy kid.mode (inside kid.route reach)
    → after ≡ before ++ part_edges (edges_around forms t) n reach kid
part_there forms t n reach kid before after lt is = rw (lt-ltb kid.node.0 n.0 lt) is

pub part_not : (forms : List Form) (t : List Ends) (n : NodeId) (reach : Channel → List Point) (kid : Kid) (before : List Edge)
    → n.0 ≤ kid.node.0 → before ≡ before ++ part_edges (edges_around forms t) n reach kid
part_not forms t n reach kid before le = rw (le-ltb kid.node.0 n.0 le) (sym (append-nil before))

-- the end of a form, from what its steps say
pub form_done : (forms : List Form) (t : List Ends) (n : NodeId) (c : ℕ) (m : Mode) (reach : Channel → List Point)
    (found : Row) (kids : List Kid) (i : ℕ) (before one two after : List Edge)
    → found ≡ row_at forms t n c m → one ≡ before ++ found.arrows → two ≡ one ++ left reach found.exits → kids ≡ found.kids
    → length kids ≤ i → after ≡ two ++ flat_map (part_edges (edges_around forms t) n reach) (take i kids)
    → after ≡ before ++ edges_around forms t n c m reach
form_done forms t n c m reach found kids i before one two after is one-is two-is kids-is past told =
    let f : Kid → List Edge = part_edges (edges_around forms t) n reach in
    let all : after ≡ ((before ++ found.arrows) ++ left reach found.exits) ++ flat_map f found.kids =
    told ∙ ap (λ (x : List Kid). two ++ flat_map f x) (take_all i kids past ∙ kids-is)
    ∙ ap (λ (x : List Edge). x ++ flat_map f found.kids) (two-is ∙ ap (λ (x : List Edge). x ++ left reach found.exits) one-is) in
    all ∙ ap (λ (x : List Edge). x ++ flat_map f found.kids) (append_assoc before found.arrows (left reach found.exits))
    ∙ append_assoc before (found.arrows ++ left reach found.exits) (flat_map f found.kids)
    ∙ ap (λ (r : Row). before ++ row_edges (edges_around forms t) n reach r) is
    ∙ ap (λ (x : List Edge). before ++ x) (sym (around_rows forms t n c m reach))
