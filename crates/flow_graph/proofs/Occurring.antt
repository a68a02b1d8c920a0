-- The references that occur at points, each once.
use Rattle.std.proofs.Common.{◌≡◌, ℕ, ◌+◌, ◌<◌, Bool, true, false, ◌||◌, List, [], ◌∷◌, ◌++◌, length, refl, ap, sym, ◌∙◌, subst, ◌⊎◌, ◌↔◌, inl, inr, Option, None, Some, slice_get, get_or, take, if◌then◌else◌, cond, eq-eqb, rules, true≢false, arith, min, drop, ◌≤◌, length-append}
use borrow.Author.Tests.{eqb-true}
use Rattle.std.specs.List.{list_any, flat_map, IsDistinct}
use Rattle.std.proofs.lemmas.Option.{get_or_from_slice_get, slice_get_within}
use Rattle.std.proofs.lemmas.List.{take_more, take_all, drop_all, flat_map_more}
use Rattle.std.proofs.lemmas.Bool.{cases_lt}
use Rattle.std.proofs.Math.Nat.{eq-or-lt_of_le}
use Rattle.std.proofs.lemmas.Map.Keys.{apart_from_distinct}
use Rattle.indexmap.specs.IndexSet.{insert_key}
use Rattle.py_base.specs.declared.ids.NodeId.{NodeId}
use Rattle.py_base.specs.declared.ids.PointId.{PointId}
use Rattle.py_base.specs.declared.ids.RefId.{RefId}
use Rattle.py_base.specs.contracts.ids.RefIdPartialEq.TheImpl.{eq-value}
use Rattle.flow_rows.specs.declared.point.Point.{Point}
use Rattle.flow_rows.specs.Flow.{Has}
use Rattle.point_graph.specs.Graph.{Numbered}
use Rattle.point_graph.specs.Order.{added_once}
use Rattle.point_graph.proofs.Keys.{tests_alike}
use Rattle.point_graph.proofs.Ordering.{added_both as items_both}
use Rattle.flow_graph.specs.Table.{OccursAt, OccursIn, at_most_one, occurring_at, AreOccurring, AreOnce, same_id, sizes}
use Rattle.node_references.proofs.Links.{get_snoc}

same_self : (p : RefId) → eq-value.it p p ≡ true
same_self p = search rules

same_true : (p q : RefId) → eq-value.it p q ≡ true → p ≡ q
same_true p q h = search (h, rules)

not_before : (ks : List RefId) → IsDistinct eq-value.it ks → (i j : ℕ) (p : RefId) → slice_get ks i ≡ Some p → slice_get ks j ≡ Some p → i < j → ⊥
not_before ks d i j p hi hj lt =
    let far : eq-value.it (get_or ks i p) (get_or ks j p) ≡ false = apart_from_distinct eq-value.it ks i j p d lt (slice_get_within ks j p hj) in
    let at-i : get_or ks i p ≡ p = get_or_from_slice_get ks i p p hi in
    let at-j : get_or ks j p ≡ p = get_or_from_slice_get ks j p p hj in
    let off : eq-value.it p p ≡ false = sym (ap (λ x. eq-value.it x (get_or ks j p)) at-i ∙ ap (λ x. eq-value.it p x) at-j) ∙ far in
    absurd (cc (off, same_self p))

pub once_of : (ks : List RefId) → IsDistinct eq-value.it ks → AreOnce ks
once_of ks d i j p hi hj = elim (cases_lt i j) [
  | inl lt ↦ absurd (not_before ks d i j p hi hj lt)
  | inr ge ↦ elim (eq-or-lt_of_le ge) [ inl e ↦ sym e | inr gt ↦ absurd (not_before ks d j i p hj hi gt) ]
]

pub has_split : {A : Type 0} (xs ys : List A) (x : A) → Has (xs ++ ys) x → Has xs x ⊎ Has ys x
has_split [] ys x h = inr h
has_split (z ∷ xs) ys x (inl e) = inl (inl e)
has_split (z ∷ xs) ys x (inr h) = elim (has_split xs ys x h) [ inl p ↦ inl (inr p) | inr q ↦ inr q ]

pub has_left : {A : Type 0} (xs ys : List A) (x : A) → Has xs x → Has (xs ++ ys) x
has_left [] ys x h = absurd h
has_left (z ∷ xs) ys x (inl e) = inl e
has_left (z ∷ xs) ys x (inr h) = inr (has_left xs ys x h)

pub has_last : {A : Type 0} (xs : List A) (x : A) → Has (xs ++ x ∷ []) x
has_last [] x = inl refl
has_last (z ∷ xs) x = inr (has_last xs x)

any_has : (ks : List RefId) (k : RefId) → list_any (eq-value.it k) ks ≡ true → Has ks k
any_has [] k h = absurd (true≢false (sym h))
any_has (x ∷ ks) k h = go (eq-value.it k x) refl (λ w. any_has ks k w)
  where
    go : (b : Bool) → eq-value.it k x ≡ b → (list_any (eq-value.it k) ks ≡ true → Has ks k) → Has (x ∷ ks) k
    go true e rest = inl (sym (same_true k x e))
    go false e rest = inr (rest (sym (ap (λ b. b || list_any (eq-value.it k) ks) e) ∙ h))

insert_cases : (ks : List RefId) (k : RefId) (new : List RefId) → new ≡ insert_key eq-value.it ks k
    → ((list_any (eq-value.it k) ks ≡ true) × (new ≡ ks)) ⊎ ((list_any (eq-value.it k) ks ≡ false) × (new ≡ ks ++ k ∷ []))
insert_cases ks k new e = go (list_any (eq-value.it k) ks) refl
  where
    go : (b : Bool) → list_any (eq-value.it k) ks ≡ b
        → ((list_any (eq-value.it k) ks ≡ true) × (new ≡ ks)) ⊎ ((list_any (eq-value.it k) ks ≡ false) × (new ≡ ks ++ k ∷ []))
    go true h = inl (h, e ∙ ap (λ b. if b then ks else ks ++ k ∷ []) h)
    go false h = inr (h, e ∙ ap (λ b. if b then ks else ks ++ k ∷ []) h)

insert_exact : (ks : List RefId) (k : RefId) (new : List RefId) → new ≡ insert_key eq-value.it ks k → (p : RefId) → Has new p ↔ (Has ks p ⊎ (k ≡ p))
insert_exact ks k new e p = elim (insert_cases ks k new e) [
  | inl h ↦ (
    λ w. inl (subst (λ (l : List RefId). Has l p) h.1 w),
    λ w. subst (λ (l : List RefId). Has l p) (sym h.1) (elim w [ inl a ↦ a | inr q ↦ subst (λ (y : RefId). Has ks y) q (any_has ks k h.0) ]),
  )
  | inr h ↦ (
    λ w. elim (has_split ks (k ∷ []) p (subst (λ (l : List RefId). Has l p) h.1 w)) [ inl a ↦ inl a | inr b ↦ elim b [ inl q ↦ inr q | inr never ↦ absurd never ] ],
    λ w. subst (λ (l : List RefId). Has l p) (sym h.1) (elim w [ inl a ↦ has_left ks (k ∷ []) p a | inr q ↦ subst (λ (y : RefId). Has (ks ++ k ∷ []) y) q (has_last ks k) ]),
  )
]

-- a number comes to a set
pub id_added : (ks : List RefId) (k : RefId) (new : List RefId) → new ≡ insert_key eq-value.it ks k → new ≡ added_once same_id ks (k ∷ [])
id_added ks k new e = elim (insert_cases ks k new e) [
  | inl h ↦ h.1 ∙ sym (ap (λ (b : Bool). cond b ks (ks ++ k ∷ [])) (among_alike ks k ∙ h.0))
  | inr h ↦ h.1 ∙ sym (ap (λ (b : Bool). cond b ks (ks ++ k ∷ [])) (among_alike ks k ∙ h.0))
]
  where
    id_self : (i : RefId) → same_id i i ≡ true
    id_self i = eq-eqb i.0 i.0 refl

    id_sound : (i j : RefId) → same_id i j ≡ true → i ≡ j
    id_sound i j h = ap (λ (n : ℕ). record { 0 = n }) (eqb-true i.0 j.0 h)

    among_alike : (ks : List RefId) (k : RefId) → list_any (same_id k) ks ≡ list_any (eq-value.it k) ks
    among_alike ks k = tests_alike same_id eq-value.it id_self id_sound same_self same_true ks k

some_same : {A : Type 0} (x y : A) → Some x ≡ Some y → x ≡ y
some_same x y h = cc h

-- a reference that is found is added
pub added : (ks : List RefId) (k : RefId) (new : List RefId) → new ≡ insert_key eq-value.it ks k → (r : RefId) → Has new r ↔ (Has ks r ⊎ (Some k ≡ Some r))
added ks k new e r =
    let h = insert_exact ks k new e r in (
      λ w. elim (h.0 w) [ inl a ↦ inl a | inr q ↦ inr (ap Some q) ],
      λ w. elim w [ inl a ↦ h.1 (inl a) | inr q ↦ h.1 (inr (some_same k r q)) ],
    )

none_some : {A : Type 0} (x : A) → None ≡ Some x → ⊥
none_some x h = cc h

-- and without one nothing is
pub kept : (ks : List RefId) (r : RefId) → Has ks r ↔ (Has ks r ⊎ (None ≡ Some r))
kept ks r = (λ w. inl w, λ w. elim w [ inl a ↦ a | inr q ↦ absurd (none_some r q) ])

-- both additions at a point
pub added_both : (old one new : List RefId) (x y : Option RefId)
    → ((r : RefId) → Has one r ↔ (Has old r ⊎ (x ≡ Some r))) → ((r : RefId) → Has new r ↔ (Has one r ⊎ (y ≡ Some r)))
    → (r : RefId) → Has new r ↔ (Has old r ⊎ ((x ≡ Some r) ⊎ (y ≡ Some r)))
added_both old one new x y f g r = (
  λ w. elim ((g r).0 w) [
    | inl a ↦ elim ((f r).0 a) [ inl b ↦ inl b | inr c ↦ inr (inl c) ]
    | inr b ↦ inr (inr b)
  ],
  λ w. elim w [
    | inl a ↦ (g r).1 (inl ((f r).1 (inl a)))
    | inr b ↦ elim b [ inl c ↦ (g r).1 (inl ((f r).1 (inr c))) | inr d ↦ (g r).1 (inr d) ]
  ],
)

abbrev pub no_point : PointId
no_point = record { 0 = 0 }

-- one more point
pub occurs_next : (points : List Point) (reads : List (Option RefId)) (bindings : List (Option (RefId × NodeId))) (ids : List PointId) (i : ℕ) (old new : List RefId)
    → i < length ids → ((r : RefId) → Has old r ↔ OccursIn points reads bindings (take i ids) r)
    → ((r : RefId) → Has new r ↔ (Has old r ⊎ OccursAt points reads bindings (get_or ids i no_point) r))
    → (r : RefId) → Has new r ↔ OccursIn points reads bindings (take (i + 1) ids) r
occurs_next points reads bindings ids i old new lt f g r =
    let longer : take (i + 1) ids ≡ take i ids ++ get_or ids i no_point ∷ [] = take_more ids i no_point lt in (
      λ w. subst (λ (l : List PointId). OccursIn points reads bindings l r) (sym longer) (elim ((g r).0 w) [
        | inl a ↦ let (p, has, at) = (f r).0 a in (p, has_left (take i ids) (get_or ids i no_point ∷ []) p has, at)
        | inr b ↦ (get_or ids i no_point, has_last (take i ids) (get_or ids i no_point), b)
      ]),
      λ w. let (p, has, at) = subst (λ (l : List PointId). OccursIn points reads bindings l r) longer w in
          elim (has_split (take i ids) (get_or ids i no_point ∷ []) p has) [
            | inl a ↦ (g r).1 (inl ((f r).1 (p, a, at)))
            | inr b ↦ elim b [
              | inl q ↦ (g r).1 (inr (subst (λ (x : PointId). OccursAt points reads bindings x r) (sym q) at))
              | inr never ↦ absurd never
            ]
          ],
    )

pub listed_next : (points : List Point) (reads : List (Option RefId)) (bindings : List (Option (RefId × NodeId))) (ids : List PointId) (i : ℕ) (old new : List RefId)
    → i < length ids → old ≡ added_once same_id [] (flat_map (occurring_at points reads bindings) (take i ids))
    → new ≡ added_once same_id old (occurring_at points reads bindings (get_or ids i no_point))
    → new ≡ added_once same_id [] (flat_map (occurring_at points reads bindings) (take (i + 1) ids))
listed_next points reads bindings ids i old new lt told one =
    let f : PointId → List RefId = occurring_at points reads bindings in
    one ∙ ap (λ (l : List RefId). added_once same_id l (f (get_or ids i no_point))) told
    ∙ sym (items_both same_id [] (flat_map f (take i ids)) (f (get_or ids i no_point)))
    ∙ ap (λ (l : List RefId). added_once same_id [] l)
    (flat_map_more f [] (take i ids) (get_or ids i no_point) ∙ ap (λ (l : List PointId). flat_map f l) (sym (take_more ids i no_point lt)))

pub occurs_none : (points : List Point) (reads : List (Option RefId)) (bindings : List (Option (RefId × NodeId))) (r : RefId)
    → Has [] r ↔ OccursIn points reads bindings [] r
occurs_none points reads bindings r = (λ w. absurd w, λ (p, has, at). absurd has)

-- one more graph
pub graphs_more : (points : List Point) (reads : List (Option RefId)) (bindings : List (Option (RefId × NodeId))) (of : ℕ → List PointId)
    (graphs new : List (List RefId)) (x : List RefId) (at : ℕ) → length graphs ≡ at
    → ((n : ℕ) (refs : List RefId) → slice_get graphs n ≡ Some refs → AreOccurring points reads bindings (of n) refs)
    → new ≡ graphs ++ x ∷ [] → AreOccurring points reads bindings (of at) x
    → (n : ℕ) (refs : List RefId) → slice_get new n ≡ Some refs → AreOccurring points reads bindings (of n) refs
graphs_more points reads bindings of graphs new x at long old pushed one n refs h =
    elim (get_snoc graphs x n refs (subst (λ (l : List (List RefId)). slice_get l n ≡ Some refs) pushed h)) [
      | inl a ↦ old n refs a
      | inr b ↦ subst (λ (k : ℕ). AreOccurring points reads bindings (of k) refs) (sym (b.0 ∙ long))
          (subst (λ (l : List RefId). AreOccurring points reads bindings (of at) l) b.1 one)
    ]

-- the sum behind the last graph
pub size_done : (g : Numbered) (graphs : List (List RefId)) (i size total m : ℕ) → length graphs ≤ i → size ≤ m
    → min (size + sizes g i (drop i graphs)) m ≡ total → size ≡ total
size_done g graphs i size total m past fits told =
    let done : drop i graphs ≡ [] = drop_all i graphs past in
    let all : min (size + 0) m ≡ total = subst (λ (l : List (List RefId)). min (size + sizes g i l) m ≡ total) done told in
    let same : min (size + 0) m ≡ size = omega (arith, fits) in
    sym same ∙ all

-- behind the last point
pub occurs_all : (points : List Point) (reads : List (Option RefId)) (bindings : List (Option (RefId × NodeId))) (ids : List PointId) (i : ℕ) (keys refs : List RefId)
    → length ids ≤ i → ((r : RefId) → Has keys r ↔ OccursIn points reads bindings (take i ids) r) → AreOnce keys
    → keys ≡ added_once same_id [] (flat_map (occurring_at points reads bindings) (take i ids)) → refs ≡ keys
    → AreOccurring points reads bindings ids refs
occurs_all points reads bindings ids i keys refs past exact once listed same =
    let whole : take i ids ≡ ids = take_all i ids past in
    subst (λ (l : List RefId). AreOccurring points reads bindings ids l) (sym same) (record {
      exact = subst (λ (l : List PointId). (r : RefId) → Has keys r ↔ OccursIn points reads bindings l r) whole exact;
      once = once;
      listed = listed ∙ ap (λ (l : List PointId). added_once same_id [] (flat_map (occurring_at points reads bindings) l)) whole;
    })

pub more_long : (graphs new : List (List RefId)) (x : List RefId) (at : ℕ) → length graphs ≡ at → new ≡ graphs ++ x ∷ [] → length new ≡ at + 1
more_long graphs new x at long pushed = rw pushed (omega (arith, length-append graphs (x ∷ []), long))
