-- The steps outward from all nodes by one pass over them.
use Rattle.std.proofs.Common.{◌≡◌, ℕ, zero, suc, ◌+◌, ◌<◌, ◌≤◌, ◌==◌, Bool, true, false, List, [], ◌∷◌, ◌++◌, length, drop, map, refl, sym, ap, subst, ◌∙◌, arith, true≢false, if◌then◌else◌, inl, inr}
use Rattle.std.specs.Prelude.{Option, Some, None, option_map, slice_get, slice_set, position}
use Rattle.std.specs.List.{position_from}
use Rattle.std.proofs.Math.ListN.{drop_of_length-le}
use Rattle.std.proofs.lemmas.Bool.{eqb-true, eq-eqb, cases_lt}
use Rattle.std.proofs.lemmas.Iterator.Adapters.{position_from-zero}
use Rattle.std.proofs.lemmas.List.{length-map}
use Rattle.std.proofs.lemmas.Option.{slice_get_within, slice_get_past, slice_get_cases, slice_get-map}
use Rattle.py_base.specs.declared.ids.NodeId.{NodeId}
use Rattle.py_base.specs.declared.node.Node.{Node}
use Rattle.py_base.specs.Tree.{Arena, AreOlder, AreLinked, IsLinked}
use Rattle.py_scopes.specs.declared.way.Step.{Step}
use Rattle.py_scopes.specs.Way.{same_node, step_from, step_if, step_among, step_out}
use Rattle.py_scopes.specs.Occurrences.{first_ids}
use Rattle.py_scopes.proofs.Walks.{drop-next, length-ids}
use Rattle.py_scopes.specs.Tables.{no_step, or_else, put_first, PutsFirst, step_to, PutsSteps}

pub get-set_same : {X : Type 0} (xs : List X) (k : ℕ) (y : X) → k < length xs → slice_get (slice_set xs k y) k ≡ Some y
get-set_same [] k y lt = absurd (omega arith)
get-set_same (x ∷ xs) zero y lt = refl
get-set_same (x ∷ xs) (suc k) y lt = get-set_same xs k y (omega arith)

pub get-set_other : {X : Type 0} (xs : List X) (k i : ℕ) (y : X) → (k ≡ i → ⊥) → slice_get (slice_set xs k y) i ≡ slice_get xs i
get-set_other [] k i y ne = refl
get-set_other (x ∷ xs) zero zero y ne = absurd (ne refl)
get-set_other (x ∷ xs) zero (suc i) y ne = refl
get-set_other (x ∷ xs) (suc k) zero y ne = refl
get-set_other (x ∷ xs) (suc k) (suc i) y ne = get-set_other xs k i y (λ e. ne (ap suc e))

pub apart : (k i : ℕ) → (k == i) ≡ false → k ≡ i → ⊥
apart k i h e = true≢false (sym (eq-eqb k i e) ∙ h)

pub puts-free : {X : Type 0} (k : ℕ) (x : X) (old new : List (Option X)) → slice_get old k ≡ Some None → new ≡ slice_set old k (Some x) → PutsFirst k x old new
puts-free {X} k x old new free made i = ap (λ l. slice_get l i) made ∙ go (k == i) refl
  where
    kept : (k == i) ≡ false → (o : Option (Option X)) → o ≡ option_map (put_first k x i) o
    kept e None = refl
    kept e (Some o) = sym (ap (λ b. Some (if b then or_else o (Some x) else o)) e)

    go : (b : Bool) → (k == i) ≡ b → slice_get (slice_set old k (Some x)) i ≡ option_map (put_first k x i) (slice_get old i)
    go true e =
        let same = eqb-true k i e in
        subst (λ j. slice_get (slice_set old k (Some x)) j ≡ Some (Some x)) same (get-set_same old k (Some x) (slice_get_within old k None free))
        ∙ sym (ap (option_map (put_first k x i)) (ap (slice_get old) (sym same) ∙ free) ∙ ap (λ b. Some (if b then Some x else None)) e)
    go false e = get-set_other old k i (Some x) (apart k i e) ∙ kept e (slice_get old i)

pub puts-taken : {X : Type 0} (k : ℕ) (x : X) (old : List (Option X)) → (slice_get old k ≡ Some None → ⊥) → PutsFirst k x old old
puts-taken {X} k x old taken i = go (slice_get old i) refl (k == i) refl
  where
    go : (o : Option (Option X)) → slice_get old i ≡ o → (b : Bool) → (k == i) ≡ b → o ≡ option_map (put_first k x i) o
    go None e b h = refl
    go (Some (Some y)) e true h = sym (ap (λ b. Some (if b then Some y else Some y)) h)
    go (Some (Some y)) e false h = sym (ap (λ b. Some (if b then Some y else Some y)) h)
    go (Some None) e true h = absurd (taken (ap (slice_get old) (eqb-true k i h) ∙ e))
    go (Some None) e false h = sym (ap (λ b. Some (if b then Some x else None)) h)

-- What the parts that are left still give: where nothing is put yet, the first of them that is the node.
abbrev pub step_at_place : List Node → ℕ → Node → ℕ → List NodeId → ℕ → Option Step
step_at_place nodes at n place parts i = step_if nodes at n (position_from (λ p. same_node p (record { 0 = i })) place parts) None

abbrev pub PlacesFrom : List Node → ℕ → Node → ℕ → List NodeId → List (Option Step) → List (Option Step) → Type 0
PlacesFrom nodes at n place parts old now =
    (i : ℕ) → option_map (λ o. or_else o (step_at_place nodes at n place parts i)) (slice_get now i)
    ≡ option_map (λ o. or_else o (step_to nodes at (Some n) i)) (slice_get old i)

-- What the nodes that are left still give.
abbrev pub StepsFrom : List Node → ℕ → List Node → List (Option Step) → Type 0
StepsFrom nodes at rest now =
    (i : ℕ) → i < length nodes → option_map (λ o. or_else o (step_among nodes (record { 0 = i }) at rest)) (slice_get now i) ≡ Some (step_out nodes (record { 0 = i }))

pub map-twice : {X Y Z : Type 0} (f : Y → Z) (g : X → Y) (h : X → Z) → ((x : X) → f (g x) ≡ h x) → (o : Option X) → option_map f (option_map g o) ≡ option_map h o
map-twice f g h e None = refl
map-twice f g h e (Some x) = ap Some (e x)

or_else-none : {X : Type 0} (o : Option X) → or_else o None ≡ o
or_else-none None = refl
or_else-none (Some x) = refl

map-or_else-none : {X : Type 0} (o : Option (Option X)) → option_map (λ x. or_else x None) o ≡ o
map-or_else-none None = refl
map-or_else-none (Some x) = ap Some (or_else-none x)

pub places-start : (nodes : List Node) (at : ℕ) (n : Node) (parts : List NodeId) (old : List (Option Step)) → parts ≡ n.parts → PlacesFrom nodes at n 0 parts old old
places-start nodes at n parts old e i =
    let test : NodeId → Bool = λ p. same_node p (record { 0 = i }) in
    ap (λ q. option_map (λ o. or_else o (step_if nodes at n q None)) (slice_get old i)) (ap (position_from test 0) e ∙ sym (position_from-zero test n.parts))

place-step : (nodes : List Node) (at : ℕ) (n : Node) (place : ℕ) (s : Step) (q : Option ℕ) (o : Option Step) (b : Bool) → s ≡ step_from nodes at n place
    → or_else (if b then or_else o (Some s) else o) (step_if nodes at n q None) ≡ or_else o (step_if nodes at n (if b then Some place else q) None)
place-step nodes at n place s q None true e = ap Some e
place-step nodes at n place s q (Some y) true e = refl
place-step nodes at n place s q o false e = refl

pub places-next : (nodes : List Node) (at : ℕ) (n : Node) (place : ℕ) (parts : List NodeId) (p : NodeId) (s : Step) (old now new : List (Option Step))
    → slice_get parts place ≡ Some p → s ≡ step_from nodes at n place → PutsFirst p.0 s now new → PlacesFrom nodes at n place (drop place parts) old now
    → PlacesFrom nodes at n (place + 1) (drop (place + 1) parts) old new
places-next nodes at n place parts p s old now new here made puts before i =
    let test : NodeId → Bool = λ x. same_node x (record { 0 = i }) in
    let rest : Option ℕ = position_from test (place + 1) (drop (place + 1) parts) in
    let after : Option Step → Option Step = λ o. or_else o (step_if nodes at n rest None) in
    ap (option_map after) (puts i)
    ∙ map-twice after (put_first p.0 s i) (λ o. or_else o (step_if nodes at n (if p.0 == i then Some place else rest) None)) (λ o. place-step nodes at n place s rest o (p.0 == i) made) (slice_get now i)
    ∙ ap (λ l. option_map (λ o. or_else o (step_at_place nodes at n place l i)) (slice_get now i)) (sym (drop-next parts place p here))
    ∙ before i

pub places-end : (nodes : List Node) (at : ℕ) (n : Node) (place : ℕ) (rest : List NodeId) (old now : List (Option Step)) → rest ≡ [] → slice_get nodes at ≡ Some n → PlacesFrom nodes at n place rest old now
    → PutsSteps nodes at old now
places-end nodes at n place rest old now done here before i =
    sym (map-or_else-none (slice_get now i)) ∙ ap (λ l. option_map (λ o. or_else o (step_at_place nodes at n place l i)) (slice_get now i)) (sym done) ∙ before i
    ∙ ap (λ m. option_map (λ o. or_else o (step_to nodes at m i)) (slice_get old i)) (sym here)

-- a list by its items

get-left : {X : Type 0} (xs ys : List X) (i : ℕ) → i < length xs → slice_get (xs ++ ys) i ≡ slice_get xs i
get-left [] ys i lt = absurd (omega arith)
get-left (x ∷ xs) ys zero lt = refl
get-left (x ∷ xs) ys (suc i) lt = get-left xs ys i (omega arith)

get-last : {X : Type 0} (xs : List X) (x : X) → slice_get (xs ++ x ∷ []) (length xs) ≡ Some x
get-last [] x = refl
get-last (y ∷ xs) x = get-last xs x

pub get-ids : (n i : ℕ) → i < n → slice_get (first_ids n) i ≡ Some (record { 0 = i })
get-ids zero i lt = absurd (omega arith)
get-ids (suc n) i lt = elim (cases_lt i n) [
  | inl h ↦ get-left (first_ids n) (record { 0 = n } ∷ []) i (subst (λ k. i < k) (sym (length-ids n)) h) ∙ get-ids n i h
  | inr h ↦ let same : i ≡ n = omega arith in
      ap (slice_get (first_ids n ++ record { 0 = n } ∷ [])) (same ∙ sym (length-ids n)) ∙ get-last (first_ids n) (record { 0 = n }) ∙ ap (λ k. Some (record { 0 = k })) (sym same)
]

pub same-by-get : {X : Type 0} (xs ys : List X) → ((i : ℕ) → slice_get xs i ≡ slice_get ys i) → xs ≡ ys
same-by-get [] [] h = refl
same-by-get [] (y ∷ ys) h = let e = h 0 in absurd (cc e)
same-by-get (x ∷ xs) [] h = let e = h 0 in absurd (cc e)
same-by-get (x ∷ xs) (y ∷ ys) h =
    let e = h 0 in
    let same : x ≡ y = cc e in
    let rest = same-by-get xs ys (λ i. h (suc i)) in
    λ j. same j ∷ rest j

pub made-by-get : {Y : Type 0} (f : NodeId → Y) (n : ℕ) (ys : List Y) → length ys ≡ n → ((i : ℕ) → i < n → slice_get ys i ≡ Some (f (record { 0 = i }))) → ys ≡ map f (first_ids n)
made-by-get f n ys count h = same-by-get ys (map f (first_ids n)) (λ i. elim (cases_lt i n) [
  | inl lt ↦ h i lt ∙ sym (slice_get-map f (first_ids n) i ∙ ap (option_map f) (get-ids n i lt))
  | inr ge ↦ slice_get_past ys i (omega (arith, count)) ∙ sym (slice_get_past (map f (first_ids n)) i (omega (arith, length-map (first_ids n) f, length-ids n)))
])

pub get-made : {Y : Type 0} (f : NodeId → Y) (n i : ℕ) → i < n → slice_get (map f (first_ids n)) i ≡ Some (f (record { 0 = i }))
get-made f n i lt = slice_get-map f (first_ids n) i ∙ ap (option_map f) (get-ids n i lt)

pub length-made : {Y : Type 0} (f : NodeId → Y) (n : ℕ) → length (map f (first_ids n)) ≡ n
length-made f n = length-map (first_ids n) f ∙ length-ids n

pub steps-start : (nodes : List Node) (now : List (Option Step)) → now ≡ map no_step (first_ids (length nodes)) → StepsFrom nodes 0 nodes now
steps-start nodes now e i lt = ap (option_map (λ o. or_else o (step_out nodes (record { 0 = i })))) (ap (λ l. slice_get l i) e ∙ get-made no_step (length nodes) i lt)

step-assoc : (nodes : List Node) (at : ℕ) (n : Node) (q : Option ℕ) (rest o : Option Step) → or_else (or_else o (step_if nodes at n q None)) rest ≡ or_else o (step_if nodes at n q rest)
step-assoc nodes at n None rest None = refl
step-assoc nodes at n (Some p) rest None = refl
step-assoc nodes at n None rest (Some s) = refl
step-assoc nodes at n (Some p) rest (Some s) = refl

pub steps-next : (nodes : List Node) (at : ℕ) (n : Node) (now new : List (Option Step)) → slice_get nodes at ≡ Some n → PutsSteps nodes at now new → StepsFrom nodes at (drop at nodes) now
    → StepsFrom nodes (at + 1) (drop (at + 1) nodes) new
steps-next nodes at n now new here puts before i lt =
    let id : NodeId = record { 0 = i } in
    let rest : List Node = drop (at + 1) nodes in
    let next : at + 1 ≡ suc at = omega arith in
    let after : Option Step → Option Step = λ o. or_else o (step_among nodes id (at + 1) rest) in
    let found : Option ℕ = position (λ p. same_node p id) n.parts in
    ap (option_map after) (puts i ∙ ap (λ m. option_map (λ o. or_else o (step_to nodes at m i)) (slice_get now i)) here)
    ∙ map-twice after (λ o. or_else o (step_if nodes at n found None)) (λ o. or_else o (step_if nodes at n found (step_among nodes id (suc at) rest)))
    (λ o. step-assoc nodes at n found (step_among nodes id (at + 1) rest) o ∙ ap (λ k. or_else o (step_if nodes at n found (step_among nodes id k rest))) next) (slice_get now i)
    ∙ ap (λ l. option_map (λ o. or_else o (step_among nodes id at l)) (slice_get now i)) (sym (drop-next nodes at n here))
    ∙ before i lt

pub steps-end : (nodes : List Node) (at : ℕ) (rest : List Node) (now : List (Option Step)) → rest ≡ [] → length now ≡ length nodes → StepsFrom nodes at rest now
    → now ≡ map (step_out nodes) (first_ids (length nodes))
steps-end nodes at rest now done count before = made-by-get (step_out nodes) (length nodes) now count (λ i lt.
    sym (map-or_else-none (slice_get now i)) ∙ ap (λ l. option_map (λ o. or_else o (step_among nodes (record { 0 = i }) at l)) (slice_get now i)) (sym done) ∙ before i lt)

-- the node that a step leads to is one of the nodes
around-among : (nodes : List Node) (id : NodeId) (at : ℕ) (ns : List Node) (s : Step) → step_among nodes id at ns ≡ Some s → s.around.0 < at + length ns
around-among nodes id at [] s e = absurd (cc e)
around-among nodes id at (n ∷ ns) s e =
    go (position (λ p. same_node p id) n.parts) (λ h. let k : s.around.0 < suc at + length ns = around-among nodes id (suc at) ns s h in omega (arith, k)) e
  where
    go : (q : Option ℕ) → (step_among nodes id (suc at) ns ≡ Some s → s.around.0 < at + suc (length ns)) → step_if nodes at n q (step_among nodes id (suc at) ns) ≡ Some s
        → s.around.0 < at + suc (length ns)
    go None rest h = rest h
    go (Some p) rest h = let same : step_from nodes at n p ≡ s = cc h in let num : at ≡ s.around.0 = ap (λ x. x.around.0) same in omega (arith, num)

pub around-within : (nodes : List Node) (id : NodeId) (s : Step) → step_out nodes id ≡ Some s → s.around.0 < length nodes
around-within nodes id s e = let k = around-among nodes id 0 nodes s e in omega (arith, k)

pub all-dropped : {X : Type 0} (xs : List X) (n : ℕ) → length xs ≤ n → drop n xs ≡ []
all-dropped xs n le = drop_of_length-le xs le

pub steps-next-any : (nodes : List Node) (at : ℕ) (now new : List (Option Step)) → at < length nodes → PutsSteps nodes at now new → StepsFrom nodes at (drop at nodes) now
    → StepsFrom nodes (at + 1) (drop (at + 1) nodes) new
steps-next-any nodes at now new lt puts before = elim (slice_get_cases nodes at).1 [
  | inl h ↦ steps-next nodes at h.0 now new h.2 puts before
  | inr h ↦ absurd (omega (arith, h.0))
]

-- the step outward from a node, by the table of all
pub table-step : (nodes : List Node) (id : NodeId) (table : List (Option Step)) → table ≡ map (step_out nodes) (first_ids (length nodes)) → id.0 < length nodes → slice_get table id.0 ≡ Some (step_out nodes id)
table-step nodes id table e lt = ap (λ l. slice_get l id.0) e ∙ get-made (step_out nodes) (length nodes) id.0 lt

pub table-length : (nodes : List Node) (table : List (Option Step)) → table ≡ map (step_out nodes) (first_ids (length nodes)) → length table ≡ length nodes
table-length nodes table e = ap length e ∙ length-made (step_out nodes) (length nodes)

pub step-is : (nodes : List Node) (id : NodeId) (table : List (Option Step)) (s : Option Step) → table ≡ map (step_out nodes) (first_ids (length nodes)) → id.0 < length nodes → slice_get table id.0 ≡ Some s
    → s ≡ step_out nodes id
step-is nodes id table s e lt h = let k = table-step nodes id table e lt in cc (h, k)

-- no node has a part that is newer than all

no-place : (m k : ℕ) (ps : List NodeId) (id : NodeId) → AreOlder k ps → k ≤ id.0 → position_from (λ p. same_node p id) m ps ≡ None
no-place m k [] id h le = refl
no-place m k (p ∷ ps) id h le = go (p.0 == id.0) refl (no-place (m + 1) k ps id h.1 le)
  where
    go : (b : Bool) → (p.0 == id.0) ≡ b → position_from (λ q. same_node q id) (m + 1) ps ≡ None → position_from (λ q. same_node q id) m (p ∷ ps) ≡ None
    go true e rest = let same = eqb-true p.0 id.0 e in let lt : p.0 < k = h.0 in absurd (omega (arith, same, lt, le))
    go false e rest = ap (λ b. if b then Some m else position_from (λ q. same_node q id) (m + 1) ps) e ∙ rest

none-among : (names at : ℕ) (nodes ns : List Node) (id : NodeId) → AreLinked names at ns → at + length ns ≤ id.0 → step_among nodes id at ns ≡ None
none-among names at nodes [] id h le = refl
none-among names at nodes (n ∷ ns) id h le =
    ap (λ q. step_if nodes at n q (step_among nodes id (suc at) ns)) (position_from-zero (λ p. same_node p id) n.parts ∙ no-place 0 at n.parts id h.0 (omega arith))
    ∙ none-among names (suc at) nodes ns id h.2 (omega arith)

pub none-beyond : (a : Arena) (id : NodeId) → IsLinked a → length a.nodes ≤ id.0 → step_out a.nodes id ≡ None
none-beyond a id linked le = none-among (length a.names) 0 a.nodes a.nodes id linked (omega arith)
