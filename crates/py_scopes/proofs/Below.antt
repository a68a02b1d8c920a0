-- The nodes that occurrences name are nodes of the tree.
use Rattle.std.proofs.Common.{◌≡◌, ℕ, zero, suc, ◌+◌, ◌<◌, ◌≤◌, Bool, true, false, List, [], ◌∷◌, ◌++◌, length, refl, sym, subst, arith, if◌then◌else◌}
use Rattle.std.specs.Prelude.{Option, Some, None, IfSome, fold, filter_map, slice_get, bytes_eq, codes, nat_lt, ◌&&◌}
use Rattle.std.specs.List.{cons_option}
use Rattle.std.proofs.lemmas.List.Elements.{filter_map-append}
use Rattle.std.proofs.lemmas.Option.{slice_get_within}
use Rattle.py_base.specs.declared.ids.NodeId.{NodeId}
use Rattle.py_base.specs.declared.ids.NameId.{NameId}
use Rattle.py_base.specs.declared.node.Node.{Node}
use Rattle.py_base.specs.Nodes.{parts_or_none, parts_at}
use Rattle.py_base.specs.Tree.{Arena, AreOlder, IsLinked}
use Rattle.py_base.specs.TreeLaws.{AreLinked-at}
use Rattle.py_scopes.specs.declared.way.Step.{Step}
use Rattle.py_scopes.specs.declared.scope.Symbol.{Symbol}
use Rattle.py_scopes.specs.declared.occurrence.Role.{Role}
use Rattle.py_scopes.specs.declared.occurrence.Role.TheVariants as roles
use Rattle.py_scopes.specs.declared.occurrence.Annotation.{Annotation}
use Rattle.py_scopes.specs.declared.occurrence.Occurrence.{Occurrence}
use Rattle.py_scopes.specs.Kinds.{is_attribute, is_global, is_nonlocal, is_annotated, gives_value, star_of}
use Rattle.py_scopes.specs.Way.{step_out, go_on, steps, way_out}
use Rattle.py_scopes.specs.Scopes.{kind_around}
use Rattle.py_scopes.specs.Occurrences.{binder, counts, is_group, target_way, target_binder, is_first_parameter, def_name, is_init, text_of, name_of, object_of, read_by, static_or, static_at, role_by, role_of, some_binder, annotation_of, annotation_by, occurrence_on, occurrence_if, leaf_name, occurrence_at, first_ids, occurrences}
use Rattle.py_scopes.specs.Table.{is_bound_at, annotation_at, earlier, earliest, declaration, bound_node, binding_at, bindings}
use Rattle.py_scopes.specs.Tables.{IsBelow, AreBelow}
use Rattle.py_scopes.proofs.Outward.{around-within}

-- the steps lead to nodes that are among the first so many
abbrev pub AreStepsBelow : ℕ → List Step → Type 0
AreStepsBelow n [] = Unit {0}
AreStepsBelow n (s ∷ ss) = (s.around.0 < n) × AreStepsBelow n ss

steps-below : (k : ℕ) (nodes : List Node) (id : NodeId) → AreStepsBelow (length nodes) (steps k nodes id)
steps-below zero nodes id = tt
steps-below (suc k) nodes id = go (step_out nodes id) refl (λ i. steps-below k nodes i)
  where
    go : (o : Option Step) → step_out nodes id ≡ o → ((i : NodeId) → AreStepsBelow (length nodes) (steps k nodes i)) → AreStepsBelow (length nodes) (go_on o (steps k nodes))
    go None e rest = tt
    go (Some s) e rest = (around-within nodes id s e, rest s.around)

target-below : (n : ℕ) (way : List Step) → AreStepsBelow n way → AreStepsBelow n (target_way way)
target-below n [] h = tt
target-below n (s ∷ ss) h = go (is_attribute s.kind) (is_group s) (target-below n ss h.1)
  where
    go : (b c : Bool) → AreStepsBelow n (target_way ss) → AreStepsBelow n (if b then s ∷ ss else (if c then target_way ss else []))
    go true c k = h
    go false true k = k
    go false false k = tt

-- what is bound by the role is the name itself, or a node of the tree
abbrev pub IsRoleBelow : ℕ → Role → Type 0
IsRoleBelow n r = (id : NodeId) → id.0 < n → (bound_node id r).0 < n

object-below : (n : ℕ) (target : NodeId) (m : Option NameId) → target.0 < n → IsRoleBelow n (object_of target m)
object-below n target None h = λ id lt. lt
object-below n target (Some m) h = λ id lt. h

read-below : (a : Arena) (n : ℕ) (tw : List Step) → AreStepsBelow n tw → IsRoleBelow n (read_by a tw (target_binder tw))
read-below a n [] h = λ id lt. lt
read-below a n (s ∷ ss) h = go (target_binder (s ∷ ss))
  where
    go : (b : Option Step) → IsRoleBelow n (read_by a (s ∷ ss) b)
    go None = λ id lt. lt
    go (Some b) = object-below n s.around (name_of a s.around) h.0

static-below : (n : ℕ) (d : Option NodeId) (r : Role) → IsRoleBelow n r → IsRoleBelow n (static_or d r)
static-below n None r h = h
static-below n (Some d) r h = λ id lt. lt

role-below : (a : Arena) (n : ℕ) (static : Bool) (way : List Step) → AreStepsBelow n way → IsRoleBelow n (role_of a static way)
role-below a n static way h = go (binder way)
  where
    named : (b c : Bool) (r : Role) → IsRoleBelow n r → IsRoleBelow n (if b then roles.Global else (if c then roles.Nonlocal else r))
    named true c r k = λ id lt. lt
    named false true r k = λ id lt. lt
    named false false r k = k

    bound : (b : Bool) → IsRoleBelow n (if b then roles.FirstParameter (is_init a (def_name a way)) else roles.Binding)
    bound true = λ id lt. lt
    bound false = λ id lt. lt

    go : (b : Option Step) → IsRoleBelow n (role_by a static way b)
    go None = named (is_global (kind_around way)) (is_nonlocal (kind_around way)) (static_or (static_at static way) (read_by a (target_way way) (target_binder (target_way way))))
        (static-below n (static_at static way) (read_by a (target_way way) (target_binder (target_way way))) (read-below a n (target_way way) (target-below n way h)))
    go (Some b) = bound (is_first_parameter way)

older-at : (n : ℕ) (ids : List NodeId) (i : ℕ) (id : NodeId) → AreOlder n ids → slice_get ids i ≡ Some id → id.0 < n
older-at n [] i id h e = absurd (cc e)
older-at n (x ∷ ids) zero id h e = let same : x ≡ id = cc e in subst (λ y. y.0 < n) same h.0
older-at n (x ∷ ids) (suc i) id h e = older-at n ids i id h.1 e

part-below : (a : Arena) → IsLinked a → (k : NodeId) (i : ℕ) (id : NodeId) → slice_get (parts_at a.nodes k) i ≡ Some id → id.0 < length a.nodes
part-below a linked k i id e = go (slice_get a.nodes k.0) refl e
  where
    go : (o : Option Node) → slice_get a.nodes k.0 ≡ o → slice_get (parts_or_none o) i ≡ Some id → id.0 < length a.nodes
    go None f h = absurd (cc h)
    go (Some n) f h = let lt = older-at (0 + k.0) n.parts i id (AreLinked-at (length a.names) 0 k.0 a.nodes n linked f).0 h in let within = slice_get_within a.nodes k.0 n f in omega (arith, lt, within)

annotation-below : (a : Arena) → IsLinked a → (b : Option Step) → IfSome (annotation_by a b) (λ x. x.node.0 < length a.nodes)
annotation-below a linked None = tt
annotation-below a linked (Some b) = go (is_annotated b.kind b.parts)
  where
    found : (p : Option NodeId) → slice_get (parts_at a.nodes b.around) 1 ≡ p → IfSome (annotation_of a (star_of b.kind) p) (λ x. x.node.0 < length a.nodes)
    found None e = tt
    found (Some id) e = part-below a linked b.around 1 id e

    go : (c : Bool) → IfSome (if c then annotation_of a (star_of b.kind) (slice_get (parts_at a.nodes b.around) 1) else None) (λ x. x.node.0 < length a.nodes)
    go true = found (slice_get (parts_at a.nodes b.around) 1) refl
    go false = tt

occurrence-below : (a : Arena) → IsLinked a → (id : NodeId) → id.0 < length a.nodes → IfSome (occurrence_at a id) (IsBelow (length a.nodes))
occurrence-below a linked id lt = go (leaf_name (slice_get a.nodes id.0))
  where
    way : List Step
    way = way_out a.nodes id

    here : (n : NameId) → IsBelow (length a.nodes) (occurrence_on a id n way)
    here n = (role-below a (length a.nodes) (bytes_eq (text_of a.names n) (codes "staticmethod")) way (steps-below (length a.nodes) a.nodes id) id lt, annotation-below a linked (some_binder way (binder way)))

    counted : (n : NameId) (b : Bool) → IfSome (if b then Some (occurrence_on a id n way) else None) (IsBelow (length a.nodes))
    counted n true = here n
    counted n false = tt

    go : (n : Option NameId) → IfSome (occurrence_if a id way n) (IsBelow (length a.nodes))
    go None = tt
    go (Some n) = counted n (counts (bytes_eq (text_of a.names n) (codes "_")) way)

below-append : (n : ℕ) (xs ys : List Occurrence) → AreBelow n xs → AreBelow n ys → AreBelow n (xs ++ ys)
below-append n [] ys h k = k
below-append n (x ∷ xs) ys h k = (h.0, below-append n xs ys h.1 k)

below-kept : (n : ℕ) (f : NodeId → Option Occurrence) → ((id : NodeId) → id.0 < n → IfSome (f id) (IsBelow n)) → (k : ℕ) → k ≤ n → AreBelow n (filter_map f (first_ids k))
below-kept n f each zero le = tt
below-kept n f each (suc k) le =
    subst (AreBelow n) (sym (filter_map-append f (first_ids k) (record { 0 = k } ∷ []))) (below-append n (filter_map f (first_ids k)) (cons_option (f (record { 0 = k })) [])
    (below-kept n f each k (omega arith)) (one (f (record { 0 = k })) (each (record { 0 = k }) (omega arith))))
  where
    one : (o : Option Occurrence) → IfSome o (IsBelow n) → AreBelow n (cons_option o [])
    one None h = tt
    one (Some o) h = (h, tt)

pub occurrences-below : (a : Arena) (all : List Occurrence) → IsLinked a → all ≡ occurrences a → AreBelow (length a.nodes) all
occurrences-below a all linked e = subst (AreBelow (length a.nodes)) (sym e) (below-kept (length a.nodes) (occurrence_at a) (occurrence-below a linked) (length a.nodes) (omega arith))

-- what the table says of symbols

bindings-among : (all : List Occurrence) (x : Symbol) (n : ℕ) (rest : List Occurrence) → AreBelow n rest → AreOlder n (filter_map (binding_at all x) rest)
bindings-among all x n [] h = tt
bindings-among all x n (o ∷ os) h = go (is_bound_at all x o && gives_value o.effect) (bindings-among all x n os h.1)
  where
    go : (b : Bool) → AreOlder n (filter_map (binding_at all x) os) → AreOlder n (cons_option (if b then Some (bound_node o.node o.role) else None) (filter_map (binding_at all x) os))
    go true k = (h.0.0, k)
    go false k = k

pub bindings-below : (all : List Occurrence) (n : ℕ) → AreBelow n all → (x : Symbol) → AreOlder n (bindings all x)
bindings-below all n h x = bindings-among all x n all h

abbrev pub AreAnnotationsBelow : ℕ → List Annotation → Type 0
AreAnnotationsBelow n [] = Unit {0}
AreAnnotationsBelow n (y ∷ ys) = (y.node.0 < n) × AreAnnotationsBelow n ys

annotations-among : (all : List Occurrence) (x : Symbol) (n : ℕ) (rest : List Occurrence) → AreBelow n rest → AreAnnotationsBelow n (filter_map (annotation_at all x) rest)
annotations-among all x n [] h = tt
annotations-among all x n (o ∷ os) h = go (is_bound_at all x o) o.annotation h.0.1 (annotations-among all x n os h.1)
  where
    go : (b : Bool) (y : Option Annotation) → IfSome y (λ z. z.node.0 < n) → AreAnnotationsBelow n (filter_map (annotation_at all x) os)
        → AreAnnotationsBelow n (cons_option (if b then y else None) (filter_map (annotation_at all x) os))
    go true None f k = k
    go true (Some y) f k = (f, k)
    go false y f k = k

earlier-below : (n : ℕ) (x : Annotation) (ys : List Annotation) → x.node.0 < n → AreAnnotationsBelow n ys → (fold earlier x ys).node.0 < n
earlier-below n x [] h k = h
earlier-below n x (y ∷ ys) h k = earlier-below n (earlier x y) ys (one (nat_lt y.from x.from)) k.1
  where
    one : (b : Bool) → (if b then y else x).node.0 < n
    one true = k.0
    one false = h

earliest-below : (n : ℕ) (ys : List Annotation) → AreAnnotationsBelow n ys → IfSome (earliest ys) (λ y. y.node.0 < n)
earliest-below n [] h = tt
earliest-below n (y ∷ ys) h = earlier-below n y ys h.0 h.1

pub declaration-below : (all : List Occurrence) (n : ℕ) → AreBelow n all → (x : Symbol) → IfSome (declaration all x) (λ y. y.node.0 < n)
declaration-below all n h x = earliest-below n (filter_map (annotation_at all x) all) (annotations-among all x n all h)
