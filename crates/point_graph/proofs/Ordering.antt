-- Points and edges come in the order in which they are listed.
use Rattle.std.proofs.Common.{◌≡◌, ℕ, zero, suc, ◌<◌, ◌+◌, Bool, true, false, true≢false, ◌||◌, cond, List, [], ◌∷◌, ◌++◌, append_assoc, append-nil, refl, ap, sym, ◌∙◌, subst, ◌⊎◌, inl, inr, arith, rules, Option, Some, slice_get, length, take, get_or, is_some, map, filter, nat_eq, eq-eqb}
use borrow.Author.Tests.{eqb-true}
use Rattle.std.specs.List.{flat_map, list_any}
use Rattle.std.proofs.lemmas.List.{take_more, flat_map_more, map-append}
use Rattle.std.proofs.lemmas.Grind.{flat_map-append}
use Rattle.indexmap.specs.IndexSet.{insert_key}
use Rattle.py_base.specs.declared.ids.NodeId.{NodeId}
use Rattle.py_base.specs.declared.ids.PointId.{PointId}
use Rattle.flow_rows.specs.declared.point.Point.{Point}
use Rattle.flow_rows.specs.contracts.point.PointPartialEq.TheImpl.{eq-value}
use Rattle.flow_rows.specs.declared.edge.Edge.{Edge}
use Rattle.flow_rows.specs.declared.edge.EdgeKind.{EdgeKind}
use Rattle.flow_rows.specs.declared.form.Form.{Form}
use Rattle.flow_rows.specs.declared.ends.Ends.{Ends}
use Rattle.flow_rows.specs.declared.edge.EdgeKind.TheVariants as kinds
use Rattle.flow_rows.specs.Points.{edge, own, start}
use Rattle.flow_rows.specs.Flow.{Has, run_at}
use Rattle.flow_rows.specs.Edges.{both_ends, graph_edges}
use Rattle.point_graph.specs.declared.numbers.Step.{Step}
use Rattle.point_graph.specs.declared.incoming.Way.{Way}
use Rattle.point_graph.specs.Numbers.{IsApart, Keeps, IsNumber, IsStep, AreNumbersOf, same_number, way, way_begin, into}
use Rattle.point_graph.specs.Order.{same_point, added_once, node, roots_below, start_edge, edges_to, Begin, begin_of}
use Rattle.point_graph.specs.Building.{AreStepsBy, Continues, Comes, start_at}
use Rattle.point_graph.proofs.Keys.{insert_cases, among_has, has_among, both_or_neither, tests_alike, same_self, same_true}
use Rattle.point_graph.proofs.Steps.{no_edge, same_id}
use Rattle.point_graph.proofs.Entering.{step_kept}

-- ---- one test for another

pub point_self : (p : Point) → same_point p p ≡ true
point_self p = search rules

pub point_sound : (p q : Point) → same_point p q ≡ true → p ≡ q
point_sound p q h = search (h, rules)

pub number_self : (i : PointId) → same_number i i ≡ true
number_self i = eq-eqb i.0 i.0 refl

pub number_sound : (i j : PointId) → same_number i j ≡ true → i ≡ j
number_sound i j h = same_id i j (eqb-true i.0 j.0 h)

among_alike : (ks : List Point) (k : Point) → list_any (same_point k) ks ≡ list_any (eq-value.it k) ks
among_alike ks k = tests_alike same_point eq-value.it point_self point_sound same_self same_true ks k

-- ---- items that come once

pub added_both : {A : Type 0} (same : A → A → Bool) (old xs ys : List A) → added_once same old (xs ++ ys) ≡ added_once same (added_once same old xs) ys
added_both same old [] ys = refl
added_both same old (x ∷ xs) ys = added_both same (cond (list_any (same x) old) old (old ++ x ∷ [])) xs ys

-- a key comes to a set
pub key_added : (ks : List Point) (k : Point) (new : List Point) → new ≡ insert_key eq-value.it ks k → new ≡ added_once same_point ks (k ∷ [])
key_added ks k new e = elim (insert_cases ks k new e) [
  | inl h ↦ h.1 ∙ sym (ap (λ (b : Bool). cond b ks (ks ++ k ∷ [])) (among_alike ks k ∙ h.0))
  | inr h ↦ h.1 ∙ sym (ap (λ (b : Bool). cond b ks (ks ++ k ∷ [])) (among_alike ks k ∙ h.0))
]

-- a number comes to a list that has it, or doesn't
pub number_there : (ids : List PointId) (id : PointId) → Has ids id → ids ≡ added_once same_number ids (id ∷ [])
number_there ids id h = sym (ap (λ (b : Bool). cond b ids (ids ++ id ∷ [])) (has_among same_number number_self ids id h))

pub number_new : (ids new : List PointId) (id : PointId) → (Has ids id → ⊥) → new ≡ ids ++ id ∷ [] → new ≡ added_once same_number ids (id ∷ [])
number_new ids new id away is = is ∙ sym (ap (λ (b : Bool). cond b ids (ids ++ id ∷ [])) none)
  where
    none : list_any (same_number id) ids ≡ false
    none = both_or_neither _ _ (λ h. absurd (away (among_has same_number number_sound ids id h))) (λ h. absurd (true≢false (sym h)))

-- ---- the points of numbers

pub numbers_kept : (old new : List Point) (ids : List PointId) (ps : List Point) → Keeps old new → AreNumbersOf old ids ps → AreNumbersOf new ids ps
numbers_kept old new [] [] kept h = refl
numbers_kept old new [] (p ∷ ps) kept h = absurd (cc h)
numbers_kept old new (id ∷ ids) [] kept h = absurd (cc h)
numbers_kept old new (id ∷ ids) (p ∷ ps) kept h =
    let first : slice_get old id.0 ≡ Some p = cc h in
    let more : map (λ (i : PointId). slice_get old i.0) ids ≡ map (λ (q : Point). Some q) ps = cc h in
    let others : map (λ (i : PointId). slice_get new i.0) ids ≡ map (λ (q : Point). Some q) ps = numbers_kept old new ids ps kept more in
    ap (λ (o : Option Point). o ∷ map (λ (i : PointId). slice_get new i.0) ids) (kept id.0 p first)
    ∙ ap (λ (l : List (Option Point)). Some p ∷ l) others

-- a point and its number are found alike
alike : (points : List Point) (ids : List PointId) (ps : List Point) (id : PointId) (p : Point) → IsApart points → IsNumber points id p
    → AreNumbersOf points ids ps → list_any (same_number id) ids ≡ list_any (same_point p) ps
alike points [] [] id p apart at h = refl
alike points [] (q ∷ ps) id p apart at h = absurd (cc h)
alike points (i ∷ ids) [] id p apart at h = absurd (cc h)
alike points (i ∷ ids) (q ∷ ps) id p apart at h =
    let first : slice_get points i.0 ≡ Some q = cc h in
    let more : map (λ (j : PointId). slice_get points j.0) ids ≡ map (λ (r : Point). Some r) ps = cc h in
    go (same_number id i) (same_point p q) (list_any (same_number id) ids) (list_any (same_point p) ps)
    (both_or_neither (same_number id i) (same_point p q)
    (λ e. has_same (sym (some_same (sym first ∙ ap (λ (j : PointId). slice_get points j.0) (sym (number_sound id i e)) ∙ at))))
    (λ e. eq-eqb id.0 i.0 (apart id.0 i.0 p at (first ∙ ap (λ (r : Point). Some r) (sym (point_sound p q e))))))
    (alike points ids ps id p apart at more)
  where
    some_same : {x y : Point} → Some x ≡ Some y → x ≡ y
    some_same e = cc e

    has_same : p ≡ q → same_point p q ≡ true
    has_same e = subst (λ (r : Point). same_point p r ≡ true) e (point_self p)

    go : (a b c d : Bool) → a ≡ b → c ≡ d → (a || c) ≡ (b || d)
    go a b c d e f = cc (e, f)

one_more : (points : List Point) (ids : List PointId) (ps : List Point) (id : PointId) (p : Point) → IsNumber points id p → AreNumbersOf points ids ps
    → AreNumbersOf points (ids ++ id ∷ []) (ps ++ p ∷ [])
one_more points ids ps id p at h =
    map-append (λ (i : PointId). slice_get points i.0) ids (id ∷ [])
    ∙ ap (λ (l : List (Option Point)). l ++ slice_get points id.0 ∷ []) h
    ∙ ap (λ (o : Option Point). map (λ (q : Point). Some q) ps ++ o ∷ []) at
    ∙ sym (map-append (λ (q : Point). Some q) ps (p ∷ []))

pub point_comes : (points new_points : List Point) (list new_list : List PointId) (id : PointId) (p : Point)
    → new_points ≡ added_once same_point points (p ∷ []) → Keeps points new_points → IsApart new_points → IsNumber new_points id p
    → new_list ≡ added_once same_number list (id ∷ []) → Comes (p ∷ []) points new_points list new_list
point_comes points new_points list new_list id p all kept apart at is = record {
  all = all;
  own = λ ps h.
      let now : AreNumbersOf new_points list ps = numbers_kept points new_points list ps kept h in
      subst (λ (l : List PointId). AreNumbersOf new_points l (cond (list_any (same_point p) ps) ps (ps ++ p ∷ []))) (sym is)
      (go (list_any (same_number id) list) (list_any (same_point p) ps) (alike new_points list ps id p apart at now) ps now);
}
  where
    go : (a b : Bool) → a ≡ b → (ps : List Point) → AreNumbersOf new_points list ps → AreNumbersOf new_points (cond a list (list ++ id ∷ [])) (cond b ps (ps ++ p ∷ []))
    go true true e ps now = now
    go false false e ps now = one_more new_points list ps id p at now
    go true false e ps now = absurd (true≢false e)
    go false true e ps now = absurd (true≢false (sym e))

pub comes_none : (points : List Point) (list : List PointId) → Comes [] points points list list
comes_none points list = record { all = refl; own = λ ps h. h }

pub comes_both : (xs ys points middle new_points : List Point) (list middle_list new_list : List PointId)
    → Comes xs points middle list middle_list → Comes ys middle new_points middle_list new_list → Comes (xs ++ ys) points new_points list new_list
comes_both xs ys points middle new_points list middle_list new_list a b = record {
  all = b.all ∙ ap (λ (l : List Point). added_once same_point l ys) a.all ∙ sym (added_both same_point points xs ys);
  own = λ ps h. subst (λ (l : List Point). AreNumbersOf new_points new_list l) (sym (added_both same_point ps xs ys)) (b.own (added_once same_point ps xs) (a.own ps h));
}

-- the ends of one more edge
pub ends_come : (edges : List Edge) (i : ℕ) (points middle next_points new : List Point) (list middle_list next_list new_list : List PointId) → i < length edges
    → Comes (flat_map both_ends (take i edges)) points middle list middle_list
    → Comes ((get_or edges i no_edge).from ∷ []) middle next_points middle_list next_list
    → Comes ((get_or edges i no_edge).to ∷ []) next_points new next_list new_list
    → Comes (flat_map both_ends (take (i + 1) edges)) points new list new_list
ends_come edges i points middle next_points new list middle_list next_list new_list lt told from to =
    let e : Edge = get_or edges i no_edge in
    let is : flat_map both_ends (take i edges) ++ both_ends e ≡ flat_map both_ends (take (i + 1) edges) =
    flat_map_more both_ends [] (take i edges) e ∙ ap (λ (l : List Edge). flat_map both_ends l) (sym (take_more edges i no_edge lt)) in
    subst (λ (l : List Point). Comes l points new list new_list) is
    (comes_both (flat_map both_ends (take i edges)) (both_ends e) points middle new list middle_list new_list told
    (comes_both (e.from ∷ []) (e.to ∷ []) middle next_points new middle_list next_list new_list from to))

-- ---- steps

pub steps_kept : (old new : List Point) → Keeps old new → (edges : List Edge) (steps : List Step) → AreStepsBy old edges steps → AreStepsBy new edges steps
steps_kept old new kept [] [] h = tt
steps_kept old new kept [] (s ∷ steps) h = absurd h
steps_kept old new kept (e ∷ edges) [] h = absurd h
steps_kept old new kept (e ∷ edges) (s ∷ steps) h = (step_kept old new e s kept h.0, steps_kept old new kept edges steps h.1)

pub steps_both : (points : List Point) (es : List Edge) (ss : List Step) (fs : List Edge) (ts : List Step)
    → AreStepsBy points es ss → AreStepsBy points fs ts → AreStepsBy points (es ++ fs) (ss ++ ts)
steps_both points [] [] fs ts h k = k
steps_both points [] (s ∷ ss) fs ts h k = absurd h
steps_both points (e ∷ es) [] fs ts h k = absurd h
steps_both points (e ∷ es) (s ∷ ss) fs ts h k = (h.0, steps_both points es ss fs ts h.1 k)

pub continues_none : (points : List Point) (steps : List Step) → Continues points [] steps steps
continues_none points steps = ([], tt, sym (append-nil steps))

pub continues_both : (old_points points : List Point) (es fs : List Edge) (steps middle new : List Step) → Keeps old_points points
    → Continues old_points es steps middle → Continues points fs middle new → Continues points (es ++ fs) steps new
continues_both old_points points es fs steps middle new kept a b = (
  a.0 ++ b.0,
  steps_both points es a.0 fs b.0 (steps_kept old_points points kept es a.0 a.1) b.1,
  b.2 ∙ ap (λ (l : List Step). l ++ b.0) a.2 ∙ append_assoc steps a.0 b.0,
)

-- one more edge
pub edge_continues : (old_points points : List Point) (edges : List Edge) (i : ℕ) (steps middle new : List Step) (s : Step)
    → i < length edges → Keeps old_points points → Continues old_points (take i edges) steps middle
    → IsStep points (get_or edges i no_edge) s → new ≡ middle ++ s ∷ []
    → Continues points (take (i + 1) edges) steps new
edge_continues old_points points edges i steps middle new s lt kept told one is =
    subst (λ (l : List Edge). Continues points l steps new) (sym (take_more edges i no_edge lt))
    (continues_both old_points points (take i edges) (get_or edges i no_edge ∷ []) steps middle new kept told (s ∷ [], (one, tt), is))

-- ---- the edges to starts

pub start_continues : (forms : List Form) (points : List Point) (root : NodeId) (steps new_steps : List Step) (s : Step)
    → is_some (run_at forms root) ≡ true → Has points (own root 0)
    → IsNumber points s.from (own root 0) → IsNumber points s.to (start root) → s.kind ≡ kinds.Start
    → new_steps ≡ steps ++ s ∷ []
    → Continues points (start_at forms points root) steps new_steps
start_continues forms points root steps new_steps s has there from to kind is =
    let one : Edge = edge (own root 0) (start root) kinds.Start in
    let found : start_at forms points root ≡ one ∷ [] =
    ap (λ (b : Bool). cond b (start_edge points root) []) has
    ∙ ap (λ (b : Bool). cond b (one ∷ []) []) (has_among same_point point_self points (own root 0) there) in
    subst (λ (l : List Edge). Continues points l steps new_steps) (sym found) (s ∷ [], (record { from = from; to = to; kind = kind }, tt), is)

pub start_no_graph : (forms : List Form) (points : List Point) (root : NodeId) (steps : List Step) → is_some (run_at forms root) ≡ false
    → Continues points (start_at forms points root) steps steps
start_no_graph forms points root steps none =
    subst (λ (l : List Edge). Continues points l steps steps) (sym (ap (λ (b : Bool). cond b (start_edge points root) []) none)) (continues_none points steps)

pub start_no_point : (forms : List Form) (points : List Point) (root : NodeId) (steps : List Step) → (Has points (own root 0) → ⊥)
    → Continues points (start_at forms points root) steps steps
start_no_point forms points root steps away =
    let one : Edge = edge (own root 0) (start root) kinds.Start in
    let none : list_any (same_point (own root 0)) points ≡ false =
    both_or_neither _ _ (λ h. absurd (away (among_has same_point point_sound points (own root 0) h))) (λ h. absurd (true≢false (sym h))) in
    let never : (b : Bool) → cond b (start_edge points root) [] ≡ [] = λ b. go b (ap (λ (x : Bool). cond x (one ∷ []) []) none) in
    subst (λ (l : List Edge). Continues points l steps steps) (sym (never (is_some (run_at forms root)))) (continues_none points steps)
  where
    go : (b : Bool) → start_edge points root ≡ [] → cond b (start_edge points root) [] ≡ []
    go true e = e
    go false e = refl

-- ---- one more node

over_one : {A : Type 0} (f : NodeId → List A) (n : NodeId) (b : Bool) → flat_map f (cond b (n ∷ []) []) ≡ cond b (f n) []
over_one f n true = append-nil (f n)
over_one f n false = refl

pub roots_more : {A : Type 0} (f : NodeId → List A) (forms : List Form) (n : ℕ)
    → flat_map f (roots_below forms (n + 1)) ≡ flat_map f (roots_below forms n) ++ cond (is_some (run_at forms (node n))) (f (node n)) []
roots_more {A} f forms n =
    let on : n + 1 ≡ suc n = omega arith in
    ap (λ (k : ℕ). flat_map f (roots_below forms k)) on
    ∙ flat_map-append f (roots_below forms n) (cond (is_some (run_at forms (node n))) (node n ∷ []) [])
    ∙ ap (λ (l : List A). flat_map f (roots_below forms n) ++ l) (over_one f (node n) (is_some (run_at forms (node n))))

-- a node without a graph
pub roots_skip : {A : Type 0} (f : NodeId → List A) (forms : List Form) (n : ℕ) → is_some (run_at forms (node n)) ≡ false
    → flat_map f (roots_below forms (n + 1)) ≡ flat_map f (roots_below forms n)
roots_skip f forms n none =
    roots_more f forms n ∙ ap (λ (b : Bool). flat_map f (roots_below forms n) ++ cond b (f (node n)) []) none ∙ append-nil (flat_map f (roots_below forms n))

-- and one with a graph
pub roots_take : {A : Type 0} (f : NodeId → List A) (forms : List Form) (n : ℕ) → is_some (run_at forms (node n)) ≡ true
    → flat_map f (roots_below forms (n + 1)) ≡ flat_map f (roots_below forms n) ++ f (node n)
roots_take f forms n has = roots_more f forms n ∙ ap (λ (b : Bool). flat_map f (roots_below forms n) ++ cond b (f (node n)) []) has

pub starts_continue : (forms : List Form) (points : List Point) (n : ℕ) (steps middle new : List Step)
    → Continues points (flat_map (start_edge points) (roots_below forms n)) steps middle → Continues points (start_at forms points (node n)) middle new
    → Continues points (flat_map (start_edge points) (roots_below forms (n + 1))) steps new
starts_continue forms points n steps middle new a b =
    subst (λ (l : List Edge). Continues points l steps new) (sym (roots_more (start_edge points) forms n))
    (continues_both points points (flat_map (start_edge points) (roots_below forms n)) (start_at forms points (node n)) steps middle new (λ i p h. h) a b)

-- the steps of one more graph
pub steps_more : (forms : List Form) (t : List Ends) (n : ℕ) (points new_points : List Point) (steps new_steps : List Step)
    → is_some (run_at forms (node n)) ≡ true → Keeps points new_points → AreStepsBy points (flat_map (graph_edges forms t) (roots_below forms n)) steps
    → Continues new_points (graph_edges forms t (node n)) steps new_steps
    → AreStepsBy new_points (flat_map (graph_edges forms t) (roots_below forms (n + 1))) new_steps
steps_more forms t n points new_points steps new_steps has kept h more =
    let before : List Edge = flat_map (graph_edges forms t) (roots_below forms n) in
    subst (λ (l : List Step). AreStepsBy new_points (flat_map (graph_edges forms t) (roots_below forms (n + 1))) l) (sym more.2)
    (subst (λ (l : List Edge). AreStepsBy new_points l (steps ++ more.0)) (sym (roots_take (graph_edges forms t) forms n has))
    (steps_both new_points before steps (graph_edges forms t (node n)) more.0 (steps_kept points new_points kept before steps h) more.1))

-- the steps of all graphs, and behind them those to starts
pub steps_all : (points : List Point) (edges starts : List Edge) (steps new_steps : List Step)
    → AreStepsBy points edges steps → Continues points starts steps new_steps → AreStepsBy points (edges ++ starts) new_steps
steps_all points edges starts steps new_steps h more =
    subst (λ (l : List Step). AreStepsBy points (edges ++ starts) l) (sym more.2) (steps_both points edges steps starts more.0 h more.1)

-- ---- the ways to a number are the edges to its point, in their order

begin_same : (points : List Point) (e : Edge) (s : Step) → IsStep points e s → way_begin points (way s) ≡ begin_of e
begin_same points e s one =
    subst (λ (k : EdgeKind). ◌≡◌ {A = Begin} (record { from = slice_get points s.from.0; kind = s.kind }) (record { from = Some e.from; kind = k })) one.kind
    (ap (λ (o : Option Point). record { from = o; kind = s.kind }) one.from)

pub into_ordered : (points : List Point) (edges : List Edge) (steps : List Step) → IsApart points → AreStepsBy points edges steps
    → (j : ℕ) (q : Point) → slice_get points j ≡ Some q → map (way_begin points) (into j steps) ≡ map begin_of (edges_to edges q)
into_ordered points [] [] apart h j q at = refl
into_ordered points [] (s ∷ steps) apart h j q at = absurd h
into_ordered points (e ∷ edges) [] apart h j q at = absurd h
into_ordered points (e ∷ edges) (s ∷ steps) apart h j q at =
    go (nat_eq s.to.0 j) (same_point e.to q)
    (both_or_neither (nat_eq s.to.0 j) (same_point e.to q)
    (λ x. has_same (some_same (sym h.0.to ∙ ap (λ (n : ℕ). slice_get points n) (eqb-true s.to.0 j x) ∙ at)))
    (λ x. eq-eqb s.to.0 j (apart s.to.0 j q (h.0.to ∙ ap (λ (p : Point). Some p) (point_sound e.to q x)) at)))
    (into_ordered points edges steps apart h.1 j q at)
  where
    some_same : {x y : Point} → Some x ≡ Some y → x ≡ y
    some_same w = cc w

    has_same : e.to ≡ q → same_point e.to q ≡ true
    has_same w = subst (λ (r : Point). same_point e.to r ≡ true) w (point_self e.to)

    go : (a b : Bool) → a ≡ b → map (way_begin points) (into j steps) ≡ map begin_of (edges_to edges q)
        → map (way_begin points) (cond a (way s ∷ into j steps) (into j steps)) ≡ map begin_of (cond b (e ∷ edges_to edges q) (edges_to edges q))
    go false false w rest = rest
    go true true w rest =
        ap (λ (b : Begin). b ∷ map (way_begin points) (into j steps)) (begin_same points e s h.0) ∙ ap (λ (l : List Begin). begin_of e ∷ l) rest
    go true false w rest = absurd (true≢false w)
    go false true w rest = absurd (true≢false (sym w))
