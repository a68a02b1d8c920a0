-- Numbers and steps.
use Rattle.std.proofs.Common.{◌≡◌, ℕ, ◌<◌, Bool, true, false, List, [], ◌∷◌, ◌++◌, refl, ap, sym, ◌∙◌, subst, ◌↔◌, inl, inr, get_or, length, Some, slice_get, nat_eq, cond, eq-eqb, set, zero, suc}
use borrow.Author.Tests.{eqb-true}
use Rattle.std.proofs.lemmas.List.{map-set, get_or-map, map-append}
use Rattle.std.proofs.lemmas.Option.{slice_get_within}
use Rattle.smallvec.specs.SmallVec.{SmallVec}
use Rattle.py_base.specs.declared.ids.PointId.{PointId}
use Rattle.flow_rows.specs.declared.point.Role.TheVariants.{Own}
use Rattle.flow_rows.specs.declared.edge.EdgeKind.TheVariants.{Plain}
use Rattle.flow_rows.specs.declared.point.Point.{Point}
use Rattle.flow_rows.specs.declared.edge.Edge.{Edge}
use Rattle.flow_rows.specs.declared.edge.EdgeKind.{EdgeKind}
use Rattle.flow_rows.specs.Points.{edge}
use Rattle.flow_rows.specs.Flow.{Has}
use Rattle.point_graph.specs.declared.numbers.Step.{Step}
use Rattle.point_graph.specs.declared.incoming.Way.{Way}
use Rattle.point_graph.specs.Building.{AreStepsOf}
use Rattle.point_graph.specs.Numbers.{IsApart, IsNumber, AreBelow, way, into, lists, list_at}

pub same_id : (a b : PointId) → a.0 ≡ b.0 → a ≡ b
same_id a b h = ap (λ (n : ℕ). record { 0 = n }) h

abbrev pub no_point : Point
no_point = record { node = record { 0 = 0 }; role = Own; copy = 0 }

abbrev pub no_edge : Edge
no_edge = record { from = no_point; to = no_point; kind = Plain }

some_same : {p q : Point} → Some p ≡ Some q → p ≡ q
some_same h = cc

edge_same : (e : Edge) (a b : Point) (kind : EdgeKind) → e.from ≡ a → e.to ≡ b → e.kind ≡ kind → e ≡ edge a b kind
edge_same e a b kind p q r =
    subst (λ (x : Point). e ≡ edge x b kind) p (subst (λ (y : Point). e ≡ edge e.from y kind) q (subst (λ (k : EdgeKind). e ≡ edge e.from e.to k) r refl))

way_same : (s : Step) (i : PointId) (kind : EdgeKind) → s.from ≡ i → s.kind ≡ kind → way s ≡ record { from = i; kind = kind }
way_same s i kind p q =
    subst (λ (x : PointId). ◌≡◌ {A = Way} (way s) (record { from = x; kind = kind })) p (subst (λ (k : EdgeKind). ◌≡◌ {A = Way} (way s) (record { from = s.from; kind = k })) q refl)

-- the ways to a number are the steps that lead there
into_split : (j : ℕ) (steps : List Step) (w : Way) → Has (into j steps) w → (s : Step) × Has steps s × (s.to.0 ≡ j) × (way s ≡ w)
into_split j [] w h = absurd h
into_split j (s ∷ steps) w h = go (λ v. into_split j steps w v) (nat_eq s.to.0 j) refl h
  where
    go : (Has (into j steps) w → (x : Step) × Has steps x × (x.to.0 ≡ j) × (way x ≡ w)) → (b : Bool) → nat_eq s.to.0 j ≡ b
        → Has (cond b (way s ∷ into j steps) (into j steps)) w → (x : Step) × Has (s ∷ steps) x × (x.to.0 ≡ j) × (way x ≡ w)
    go rest false q v = let r = rest v in (r.0, inr r.1, r.2, r.3)
    go rest true q (inr v) = let r = rest v in (r.0, inr r.1, r.2, r.3)
    go rest true q (inl same) = (s, inl refl, eqb-true s.to.0 j q, same)

into_join : (j : ℕ) (steps : List Step) (s : Step) → Has steps s → s.to.0 ≡ j → Has (into j steps) (way s)
into_join j [] s h e = absurd h
into_join j (x ∷ steps) s (inl same) e =
    let hit : nat_eq x.to.0 j ≡ true = eq-eqb x.to.0 j (ap (λ (y : Step). y.to.0) same ∙ e) in
    subst (λ (b : Bool). Has (cond b (way x ∷ into j steps) (into j steps)) (way s)) (sym hit) (inl (ap way same))
into_join j (x ∷ steps) s (inr more) e = go (into_join j steps s more e) (nat_eq x.to.0 j)
  where
    go : Has (into j steps) (way s) → (b : Bool) → Has (cond b (way x ∷ into j steps) (into j steps)) (way s)
    go rest true = inr rest
    go rest false = rest

-- all steps lead below the count of the points
pub steps_below : (count : ℕ) (steps : List Step) → ((s : Step) → Has steps s → s.to.0 < count) → AreBelow count steps
steps_below count [] h = tt
steps_below count (s ∷ steps) h = (h s (inl refl), steps_below count steps (λ x w. h x (inr w)))

pub to_below : (points : List Point) (IsOne : Edge → Type 0) (steps : List Step) → AreStepsOf points IsOne steps → (s : Step) → Has steps s → s.to.0 < length points
to_below points IsOne steps are s h = let r = are.sound s h in slice_get_within points s.to.0 r.0.to r.2.to

-- the ways to a number are the edges to its point
pub ways_exact : (points : List Point) (IsOne : Edge → Type 0) (steps : List Step) → IsApart points → AreStepsOf points IsOne steps
    → (w : Way) (j : ℕ) (q : Point) → slice_get points j ≡ Some q
    → Has (into j steps) w ↔ ((p : Point) × IsNumber points w.from p × IsOne (edge p q w.kind))
ways_exact points IsOne steps apart are w j q at-j = (
  λ h. let r = into_split j steps w h in
      let s : Step = r.0 in
      let o = are.sound s r.1 in
      let e : Edge = o.0 in
      let from : IsNumber points w.from e.from = subst (λ (x : Way). IsNumber points x.from e.from) r.3 o.2.from in
      let to : e.to ≡ q = some_same (sym o.2.to ∙ ap (λ (n : ℕ). slice_get points n) r.2 ∙ at-j) in
      let kind : e.kind ≡ w.kind = sym o.2.kind ∙ ap (λ (x : Way). x.kind) r.3 in
      (e.from, from, subst (λ (x : Edge). IsOne x) (edge_same e e.from q w.kind refl to kind) o.1),
  λ r. let o = are.known (edge r.0 q w.kind) r.2 in
      let s : Step = o.0 in
      let from : s.from ≡ w.from = same_id s.from w.from (apart s.from.0 w.from.0 r.0 o.2.from r.1) in
      let to : s.to.0 ≡ j = apart s.to.0 j q o.2.to at-j in
      subst (λ (x : Way). Has (into j steps) x) (way_same s w.from w.kind from o.2.kind) (into_join j steps s o.1 to),
)

-- a list of ways grows by one
pub put_lists : (ways : List (SmallVec Way)) (to : ℕ) (w : Way) (old new : SmallVec Way)
    → to < length ways → old ≡ get_or ways to old → new.items ≡ old.items ++ w ∷ []
    → lists (set ways to new) ≡ set (lists ways) to (list_at (lists ways) to ++ w ∷ [])
put_lists ways to w old new lt was is =
    map-set (λ (v : SmallVec Way). v.items) ways to new
    ∙ ap (λ (x : List Way). set (lists ways) to x)
    (is ∙ ap (λ (x : List Way). x ++ w ∷ []) (ap (λ (v : SmallVec Way). v.items) was ∙ sym (get_or-map (λ (v : SmallVec Way). v.items) ways to old [] lt)))

empty_more : (xs : List (List Way)) → ((j : ℕ) → list_at xs j ≡ []) → (j : ℕ) → list_at (xs ++ [] ∷ []) j ≡ []
empty_more [] h zero = refl
empty_more [] h (suc j) = refl
empty_more (x ∷ xs) h zero = h 0
empty_more (x ∷ xs) h (suc j) = empty_more xs (λ k. h (suc k)) j

pub empties_more : (ways new : List (SmallVec Way)) (v : SmallVec Way) → v.items ≡ [] → new ≡ ways ++ v ∷ [] → ((j : ℕ) → list_at (lists ways) j ≡ []) → (j : ℕ) → list_at (lists new) j ≡ []
empties_more ways new v none is h j =
    ap (λ (x : List (SmallVec Way)). list_at (lists x) j) is
    ∙ ap (λ (x : List (List Way)). list_at x j) (map-append (λ (u : SmallVec Way). u.items) ways (v ∷ []))
    ∙ ap (λ (x : List Way). list_at (lists ways ++ x ∷ []) j) none
    ∙ empty_more (lists ways) h j
