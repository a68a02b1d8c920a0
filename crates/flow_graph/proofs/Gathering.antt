-- What nodes give, taken together.
use Rattle.std.proofs.Common.{◌≡◌, ℕ, zero, suc, ◌-◌, ◌+◌, Bool, false, List, [], ◌∷◌, ◌++◌, refl, ap, arith, drop, Option, Some, slice_get, ◌≤◌, ◌<◌, length, sym, ◌∙◌, subst, append-nil, append_assoc, if◌then◌else◌}
use Rattle.std.proofs.lemmas.List.{drop_all}
use Rattle.py_base.specs.declared.ids.NodeId.{NodeId}
use Rattle.py_base.specs.declared.node.Node.{Node}
use Rattle.py_base.specs.Nodes.{kind_at, parts_at}
use Rattle.flow_forms.specs.Patterns.{gather}
use Rattle.flow_rows.specs.declared.point.Point.{Point}
use Rattle.flow_graph.specs.Targets.{is_place, held, targets, gather_nodes}
use Rattle.flow_graph.specs.Bindings.{run_at, run_nodes}
use Rattle.flow_graph.specs.Numbering.{run_of}
use Rattle.node_references.proofs.Links.{got}

pub targets_inner : (left : ℕ) (nodes : List Node) (n : NodeId) → (left ≡ 0 → ⊥) → is_place (kind_at nodes n) ≡ false
    → targets left nodes n ≡ gather (targets (left - 1) nodes) (held (kind_at nodes n) (parts_at nodes n))
targets_inner zero nodes n h off = absurd (h refl)
targets_inner (suc k) nodes n h off =
    let e : suc k - 1 ≡ k = omega arith in
    ap (λ (b : Bool). if b then n ∷ [] else gather (targets k nodes) (held (kind_at nodes n) (parts_at nodes n))) off
    ∙ ap (λ (j : ℕ). gather (targets j nodes) (held (kind_at nodes n) (parts_at nodes n))) (sym e)

-- the end of the loop over the parts of a level
pub level_done : (f : NodeId → List NodeId) (items : List NodeId) (i : ℕ) (before after whole : List NodeId)
    → length items ≤ i → after ++ gather f (drop i items) ≡ before ++ gather f items → whole ≡ gather f items → after ≡ before ++ whole
level_done f items i before after whole past told is =
    let done : drop i items ≡ [] = drop_all i items past in
    let all : after ++ [] ≡ before ++ gather f items = subst (λ (l : List NodeId). after ++ gather f l ≡ before ++ gather f items) done told in
    sym (append-nil after) ∙ all ∙ ap (λ (l : List NodeId). before ++ l) (sym is)

drop_at : {A : Type 0} (xs : List A) (i : ℕ) (x : A) → slice_get xs i ≡ Some x → drop i xs ≡ x ∷ drop (suc i) xs
drop_at [] i x h = absurd (cc h)
drop_at (y ∷ xs) zero x h = cc h
drop_at (y ∷ xs) (suc i) x h = drop_at xs i x h

-- one more node
pub gather_step : (f : Node → List NodeId) (nodes : List Node) (i : ℕ) (node : Node) (before after whole made : List NodeId)
    → slice_get nodes i ≡ Some node → before ++ gather_nodes f (drop i nodes) ≡ whole → after ≡ before ++ made → made ≡ f node
    → after ++ gather_nodes f (drop (i + 1) nodes) ≡ whole
gather_step f nodes i node before after whole made at told pushed is =
    let cut : drop i nodes ≡ node ∷ drop (suc i) nodes = drop_at nodes i node at in
    let next : i + 1 ≡ suc i = omega arith in
    let here : before ++ (f node ++ gather_nodes f (drop (suc i) nodes)) ≡ whole = subst (λ (l : List Node). before ++ gather_nodes f l ≡ whole) cut told in
    ap (λ (k : ℕ). after ++ gather_nodes f (drop k nodes)) next
    ∙ ap (λ (l : List NodeId). l ++ gather_nodes f (drop (suc i) nodes)) (pushed ∙ ap (λ (x : List NodeId). before ++ x) is)
    ∙ append_assoc before (f node) (gather_nodes f (drop (suc i) nodes)) ∙ here

-- one more point
pub runs_step : (points : List Point) (i : ℕ) (before after whole : List NodeId) → i < length points → before ++ run_nodes (drop i points) ≡ whole
    → after ≡ before ++ run_of (slice_get points i) → after ++ run_nodes (drop (i + 1) points) ≡ whole
runs_step points i before after whole lt told pushed =
    let (p, at) = got points i lt in
    let cut : drop i points ≡ p ∷ drop (suc i) points = drop_at points i p at in
    let next : i + 1 ≡ suc i = omega arith in
    let here : before ++ (run_at p.role p.node ++ run_nodes (drop (suc i) points)) ≡ whole = subst (λ (l : List Point). before ++ run_nodes l ≡ whole) cut told in
    ap (λ (k : ℕ). after ++ run_nodes (drop k points)) next
    ∙ ap (λ (l : List NodeId). l ++ run_nodes (drop (suc i) points)) (pushed ∙ ap (λ (x : Option Point). before ++ run_of x) at)
    ∙ append_assoc before (run_at p.role p.node) (run_nodes (drop (suc i) points)) ∙ here
