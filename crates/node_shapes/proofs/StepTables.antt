-- The steps outward from all nodes by one pass over them.
use Rattle.std.proofs.Common.{◌≡◌, ℕ, suc, ◌+◌, ◌<◌, ◌≤◌, ◌==◌, Bool, true, false, List, [], ◌∷◌, length, drop, map, refl, sym, ap, subst, ◌∙◌, arith, true≢false, if◌then◌else◌, inl, inr}
use Rattle.std.specs.Prelude.{Option, Some, None, option_map, slice_get, slice_set, position}
use Rattle.std.specs.List.{position_from}
use Rattle.std.proofs.Math.ListN.{drop_of_length-le}
use Rattle.std.proofs.lemmas.Bool.{eqb-true, eq-eqb, cases_lt}
use Rattle.std.proofs.lemmas.Iterator.Adapters.{position_from-zero}
use Rattle.std.proofs.lemmas.Option.{slice_get_within, slice_get_cases, slice_get_past}
use Rattle.py_base.specs.declared.ids.NodeId.{NodeId}
use Rattle.py_base.specs.declared.node.Node.{Node}
use Rattle.py_base.specs.declared.node.NodeKind.{NodeKind}
use Rattle.py_base.specs.Nodes.{kind_at}
use Rattle.py_base.specs.Tree.{Arena, AreOlder, AreLinked, IsLinked}
use Rattle.node_shapes.specs.declared.outward.Step.{Step}
use Rattle.node_shapes.specs.Items.{first_ids}
use Rattle.node_shapes.specs.Outward.{step_if, step_among, step_of}
use Rattle.node_shapes.specs.Tables.{steps_outward, no_step, step_from, or_else, put_first, PutsFirst, step_to, PutsSteps, step_or_none}
use Rattle.node_shapes.proofs.IdLists.{drop-next, get-set_same, get-set_other, made-by-get, get-made, length-made}

apart : (k i : ℕ) → (k == i) ≡ false → k ≡ i → ⊥
apart k i h e = true≢false (sym (eq-eqb k i e) ∙ h)

pub puts-free : {X : Type 0} (k : ℕ) (x : X) (old new : List (Option X)) → slice_get old k ≡ Some None → new ≡ slice_set old k (Some x) → PutsFirst k x old new
puts-free {X} k x old new free made i = ap (λ l. slice_get l i) made ∙ go (k == i) refl
  where
    kept : (k == i) ≡ false → (o : Option (Option X)) → o ≡ option_map (put_first k x i) o
    kept e None = refl
    kept e (Some o) = sym (ap (λ b. Some (if b then or_else o (Some x) else o)) e)

    go : (b : Bool) → (k == i) ≡ b → slice_get (slice_set old k (Some x)) i ≡ option_map (put_first k x i) (slice_get old i)
    go true e =
        let same = eqb-true k i e in
        subst (λ j. slice_get (slice_set old k (Some x)) j ≡ Some (Some x)) same (get-set_same old k (Some x) (slice_get_within old k None free))
        ∙ sym (ap (option_map (put_first k x i)) (ap (slice_get old) (sym same) ∙ free) ∙ ap (λ b. Some (if b then Some x else None)) e)
    go false e = get-set_other old k i (Some x) (apart k i e) ∙ kept e (slice_get old i)

pub puts-taken : {X : Type 0} (k : ℕ) (x : X) (old : List (Option X)) → (slice_get old k ≡ Some None → ⊥) → PutsFirst k x old old
puts-taken {X} k x old taken i = go (slice_get old i) refl (k == i) refl
  where
    go : (o : Option (Option X)) → slice_get old i ≡ o → (b : Bool) → (k == i) ≡ b → o ≡ option_map (put_first k x i) o
    go None e b h = refl
    go (Some (Some y)) e true h = sym (ap (λ b. Some (if b then Some y else Some y)) h)
    go (Some (Some y)) e false h = sym (ap (λ b. Some (if b then Some y else Some y)) h)
    go (Some None) e true h = absurd (taken (ap (slice_get old) (eqb-true k i h) ∙ e))
    go (Some None) e false h = sym (ap (λ b. Some (if b then Some x else None)) h)

-- the step to the i-th node from the first place that has it
abbrev pub step_in : List Node → ℕ → Node → Option ℕ → ℕ → Option Step → Option Step
step_in nodes at n place i other = step_if (kind_at nodes (record { 0 = i })) (record { 0 = at }) n.kind (length n.parts) place other

-- What the parts that are left still give: where nothing is put yet, the first of them that is the node.
abbrev pub step_at_place : List Node → ℕ → Node → ℕ → List NodeId → ℕ → Option Step
step_at_place nodes at n place parts i = step_in nodes at n (position_from (λ (p : NodeId). p.0 == i) place parts) i None

abbrev pub PlacesFrom : List Node → ℕ → Node → ℕ → List NodeId → List (Option Step) → List (Option Step) → Type 0
PlacesFrom nodes at n place parts old now =
    (i : ℕ) → option_map (λ o. or_else o (step_at_place nodes at n place parts i)) (slice_get now i)
    ≡ option_map (λ o. or_else o (step_to nodes at (Some n) i)) (slice_get old i)

-- What the nodes that are left still give.
abbrev pub StepsFrom : List Node → ℕ → List Node → List (Option Step) → Type 0
StepsFrom nodes at rest now =
    (i : ℕ) → i < length nodes → option_map (λ o. or_else o (step_among (kind_at nodes (record { 0 = i })) (record { 0 = i }) at rest)) (slice_get now i)
    ≡ Some (step_of nodes (record { 0 = i }))

map-twice : {X Y Z : Type 0} (f : Y → Z) (g : X → Y) (h : X → Z) → ((x : X) → f (g x) ≡ h x) → (o : Option X) → option_map f (option_map g o) ≡ option_map h o
map-twice f g h e None = refl
map-twice f g h e (Some x) = ap Some (e x)

or_else-none : {X : Type 0} (o : Option X) → or_else o None ≡ o
or_else-none None = refl
or_else-none (Some x) = refl

map-or_else-none : {X : Type 0} (o : Option (Option X)) → option_map (λ x. or_else x None) o ≡ o
map-or_else-none None = refl
map-or_else-none (Some x) = ap Some (or_else-none x)

pub places-start : (nodes : List Node) (at : ℕ) (n : Node) (parts : List NodeId) (old : List (Option Step)) → parts ≡ n.parts → PlacesFrom nodes at n 0 parts old old
places-start nodes at n parts old e i =
    let test : NodeId → Bool = λ p. p.0 == i in
    ap (λ q. option_map (λ o. or_else o (step_in nodes at n q i None)) (slice_get old i)) (ap (position_from test 0) e ∙ sym (position_from-zero test n.parts))

place-step : (nodes : List Node) (at : ℕ) (n : Node) (place i : ℕ) (p : NodeId) (s : Step) (q : Option ℕ) (o : Option Step) (b : Bool) → (p.0 == i) ≡ b → s ≡ step_from nodes at n place p
    → or_else (if b then or_else o (Some s) else o) (step_in nodes at n q i None) ≡ or_else o (step_in nodes at n (if b then Some place else q) i None)
place-step nodes at n place i p s q None true h e =
    ap Some (e ∙ ap (λ k. record { around = record { 0 = at }; kind = n.kind; part = place; parts = length n.parts; inner = kind_at nodes (record { 0 = k }) }) (eqb-true p.0 i h))
place-step nodes at n place i p s q (Some y) true h e = refl
place-step nodes at n place i p s q o false h e = refl

pub places-next : (nodes : List Node) (at : ℕ) (n : Node) (place : ℕ) (parts : List NodeId) (p : NodeId) (s : Step) (old now new : List (Option Step))
    → slice_get parts place ≡ Some p → s ≡ step_from nodes at n place p → PutsFirst p.0 s now new → PlacesFrom nodes at n place (drop place parts) old now
    → PlacesFrom nodes at n (place + 1) (drop (place + 1) parts) old new
places-next nodes at n place parts p s old now new here made puts before i =
    let test : NodeId → Bool = λ x. x.0 == i in
    let rest : Option ℕ = position_from test (place + 1) (drop (place + 1) parts) in
    let after : Option Step → Option Step = λ o. or_else o (step_in nodes at n rest i None) in
    ap (option_map after) (puts i)
    ∙ map-twice after (put_first p.0 s i) (λ o. or_else o (step_in nodes at n (if p.0 == i then Some place else rest) i None)) (λ o. place-step nodes at n place i p s rest o (p.0 == i) refl made) (slice_get now i)
    ∙ ap (λ l. option_map (λ o. or_else o (step_at_place nodes at n place l i)) (slice_get now i)) (sym (drop-next parts place p here))
    ∙ before i

pub places-end : (nodes : List Node) (at : ℕ) (n : Node) (place : ℕ) (rest : List NodeId) (old now : List (Option Step)) → rest ≡ [] → slice_get nodes at ≡ Some n → PlacesFrom nodes at n place rest old now
    → PutsSteps nodes at old now
places-end nodes at n place rest old now done here before i =
    sym (map-or_else-none (slice_get now i)) ∙ ap (λ l. option_map (λ o. or_else o (step_at_place nodes at n place l i)) (slice_get now i)) (sym done) ∙ before i
    ∙ ap (λ m. option_map (λ o. or_else o (step_to nodes at m i)) (slice_get old i)) (sym here)

pub steps-start : (nodes : List Node) (now : List (Option Step)) → now ≡ map no_step (first_ids (length nodes)) → StepsFrom nodes 0 nodes now
steps-start nodes now e i lt = ap (option_map (λ o. or_else o (step_of nodes (record { 0 = i })))) (ap (λ l. slice_get l i) e ∙ get-made no_step (length nodes) i lt)

step-assoc : (nodes : List Node) (at i : ℕ) (n : Node) (q : Option ℕ) (rest o : Option Step) → or_else (or_else o (step_in nodes at n q i None)) rest ≡ or_else o (step_in nodes at n q i rest)
step-assoc nodes at i n None rest None = refl
step-assoc nodes at i n (Some p) rest None = refl
step-assoc nodes at i n None rest (Some s) = refl
step-assoc nodes at i n (Some p) rest (Some s) = refl

steps-next : (nodes : List Node) (at : ℕ) (n : Node) (now new : List (Option Step)) → slice_get nodes at ≡ Some n → PutsSteps nodes at now new → StepsFrom nodes at (drop at nodes) now
    → StepsFrom nodes (at + 1) (drop (at + 1) nodes) new
steps-next nodes at n now new here puts before i lt =
    let id : NodeId = record { 0 = i } in
    let inner : NodeKind = kind_at nodes id in
    let rest : List Node = drop (at + 1) nodes in
    let next : at + 1 ≡ suc at = omega arith in
    let after : Option Step → Option Step = λ o. or_else o (step_among inner id (at + 1) rest) in
    let found : Option ℕ = position (λ (p : NodeId). p.0 == i) n.parts in
    ap (option_map after) (puts i ∙ ap (λ m. option_map (λ o. or_else o (step_to nodes at m i)) (slice_get now i)) here)
    ∙ map-twice after (λ o. or_else o (step_in nodes at n found i None)) (λ o. or_else o (step_in nodes at n found i (step_among inner id (suc at) rest)))
    (λ o. step-assoc nodes at i n found (step_among inner id (at + 1) rest) o ∙ ap (λ k. or_else o (step_in nodes at n found i (step_among inner id k rest))) next) (slice_get now i)
    ∙ ap (λ l. option_map (λ o. or_else o (step_among inner id at l)) (slice_get now i)) (sym (drop-next nodes at n here))
    ∙ before i lt

pub steps-next-any : (nodes : List Node) (at : ℕ) (now new : List (Option Step)) → at < length nodes → PutsSteps nodes at now new → StepsFrom nodes at (drop at nodes) now
    → StepsFrom nodes (at + 1) (drop (at + 1) nodes) new
steps-next-any nodes at now new lt puts before = elim (slice_get_cases nodes at).1 [
  | inl h ↦ steps-next nodes at h.0 now new h.2 puts before
  | inr h ↦ absurd (omega (arith, h.0))
]

pub steps-end : (nodes : List Node) (at : ℕ) (rest : List Node) (now : List (Option Step)) → rest ≡ [] → length now ≡ length nodes → StepsFrom nodes at rest now → now ≡ steps_outward nodes
steps-end nodes at rest now done count before = made-by-get (step_of nodes) (length nodes) now count (λ i lt.
    sym (map-or_else-none (slice_get now i)) ∙ ap (λ l. option_map (λ o. or_else o (step_among (kind_at nodes (record { 0 = i })) (record { 0 = i }) at l)) (slice_get now i)) (sym done) ∙ before i lt)

pub all-dropped : {X : Type 0} (xs : List X) (n : ℕ) → length xs ≤ n → drop n xs ≡ []
all-dropped xs n le = drop_of_length-le xs le

-- A node around is newer: no node has a part that is newer than itself.
no-place : (m k : ℕ) (ps : List NodeId) (id : NodeId) → AreOlder k ps → k ≤ id.0 → position_from (λ (p : NodeId). p.0 == id.0) m ps ≡ None
no-place m k [] id h le = refl
no-place m k (p ∷ ps) id h le = go (p.0 == id.0) refl (no-place (m + 1) k ps id h.1 le)
  where
    go : (b : Bool) → (p.0 == id.0) ≡ b → position_from (λ (q : NodeId). q.0 == id.0) (m + 1) ps ≡ None → position_from (λ (q : NodeId). q.0 == id.0) m (p ∷ ps) ≡ None
    go true e rest = let same = eqb-true p.0 id.0 e in let lt : p.0 < k = h.0 in absurd (omega (arith, same, lt, le))
    go false e rest = ap (λ b. if b then Some m else position_from (λ (q : NodeId). q.0 == id.0) (m + 1) ps) e ∙ rest

place-none : (at : ℕ) (ps : List NodeId) (id : NodeId) → AreOlder at ps → at ≤ id.0 → position (λ (p : NodeId). p.0 == id.0) ps ≡ None
place-none at ps id h le = position_from-zero (λ p. p.0 == id.0) ps ∙ no-place 0 at ps id h le

-- the node that a step leads to is newer, and one of the nodes
abbrev pub IsNewer : ℕ → ℕ → Step → Type 0
IsNewer n end s = (n < s.around.0) × (s.around.0 < end)

newer-among : (names at : ℕ) (inner : NodeKind) (ns : List Node) (id : NodeId) (s : Step) → AreLinked names at ns → step_among inner id at ns ≡ Some s → IsNewer id.0 (at + length ns) s
newer-among names at inner [] id s linked e = absurd (cc e)
newer-among names at inner (n ∷ ns) id s linked e =
    go (position (λ (p : NodeId). p.0 == id.0) n.parts) refl (λ h. let k = newer-among names (suc at) inner ns id s linked.2 h in (k.0, omega (arith, k.1))) e
  where
    go : (q : Option ℕ) → position (λ (p : NodeId). p.0 == id.0) n.parts ≡ q → (step_among inner id (suc at) ns ≡ Some s → IsNewer id.0 (at + suc (length ns)) s)
        → step_if inner (record { 0 = at }) n.kind (length n.parts) q (step_among inner id (suc at) ns) ≡ Some s → IsNewer id.0 (at + suc (length ns)) s
    go None here rest h = rest h
    go (Some i) here rest h =
        let num : at ≡ s.around.0 = ap (λ o. elim o as (λ _. ℕ) [ None ↦ at | Some x ↦ x.around.0 ]) h in
        elim (cases_lt id.0 at) [
          | inl lt ↦ (omega (arith, num, lt), omega (arith, num))
          | inr ge ↦ let none = place-none at n.parts id linked.0 (omega (arith, ge)) in absurd (cc (none, here))
        ]

pub newer : (a : Arena) (id : NodeId) (s : Step) → IsLinked a → step_of a.nodes id ≡ Some s → IsNewer id.0 (length a.nodes) s
newer a id s linked e = let k = newer-among (length a.names) 0 (kind_at a.nodes id) a.nodes id s linked e in (k.0, omega (arith, k.1))

pub none-beyond : (a : Arena) (id : NodeId) → IsLinked a → length a.nodes ≤ id.0 → step_of a.nodes id ≡ None
none-beyond a id linked le = go (step_of a.nodes id) refl
  where
    go : (o : Option Step) → step_of a.nodes id ≡ o → o ≡ None
    go None e = refl
    go (Some s) e = let k = newer a id s linked e in absurd (omega (arith, k.0, k.1, le))

pub step-is : (a : Arena) (id : NodeId) (table : List (Option Step)) → table ≡ steps_outward a.nodes → IsLinked a → step_or_none (slice_get table id.0) ≡ step_of a.nodes id
step-is a id table e linked = elim (cases_lt id.0 (length a.nodes)) [
  | inl lt ↦ ap step_or_none (ap (λ l. slice_get l id.0) e ∙ get-made (step_of a.nodes) (length a.nodes) id.0 lt)
  | inr ge ↦ ap step_or_none (ap (λ l. slice_get l id.0) e ∙ slice_get_past (steps_outward a.nodes) id.0 (omega (arith, ge, length-made (step_of a.nodes) (length a.nodes))))
      ∙ sym (none-beyond a id linked (omega (arith, ge)))
]
