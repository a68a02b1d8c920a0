-- One level of a pattern, and one node of a tree.
use Rattle.std.proofs.Common.{◌≡◌, ℕ, zero, suc, ◌-◌, ◌+◌, List, [], ◌∷◌, ◌++◌, refl, ap, arith, drop, Some, slice_get, ◌≤◌, length, sym, ◌∙◌, subst, append-nil, append_assoc, map}
use Rattle.std.proofs.lemmas.List.{drop_all}
use Rattle.py_base.specs.declared.ids.NodeId.{NodeId}
use Rattle.py_base.specs.declared.node.Node.{Node}
use Rattle.flow_rows.specs.declared.form.Form.{Form}
use Rattle.py_base.specs.Tree.{Arena}
use Rattle.py_base.specs.Nodes.{kind_at, parts_at}
use Rattle.flow_forms.specs.Patterns.{gather, captured, inner, captures, evaluated, inner_values, values}

pub captures_below : (left : ℕ) (a : Arena) (n : NodeId) → (left ≡ 0 → ⊥)
    → captures left a n ≡ captured a n (kind_at a.nodes n) ++ gather (captures (left - 1) a) (inner (kind_at a.nodes n) (parts_at a.nodes n))
captures_below zero a n h = absurd (h refl)
captures_below (suc k) a n h =
    let e : suc k - 1 ≡ k = omega arith in
    rw e refl

pub values_below : (left : ℕ) (a : Arena) (n : NodeId) → (left ≡ 0 → ⊥)
    → values left a n
    ≡ evaluated n (kind_at a.nodes n) (parts_at a.nodes n) ++ gather (values (left - 1) a) (inner_values (kind_at a.nodes n) (parts_at a.nodes n))
values_below zero a n h = absurd (h refl)
values_below (suc k) a n h =
    let e : suc k - 1 ≡ k = omega arith in
    rw e refl

pub drop_at : {A : Type 0} (xs : List A) (i : ℕ) (x : A) → slice_get xs i ≡ Some x → drop i xs ≡ x ∷ drop (suc i) xs
drop_at [] i x h = absurd (cc h)
drop_at (y ∷ xs) zero x h = cc h
drop_at (y ∷ xs) (suc i) x h = drop_at xs i x h

-- the end of the loop over the parts of a level
pub level_done : (f : NodeId → List NodeId) (items : List NodeId) (i : ℕ) (before one after own whole : List NodeId)
    → length items ≤ i → after ++ gather f (drop i items) ≡ one ++ gather f items → one ≡ before ++ own → whole ≡ own ++ gather f items
    → after ≡ before ++ whole
level_done f items i before one after own whole past told one-is whole-is =
    let done : drop i items ≡ [] = drop_all i items past in
    let all : after ++ [] ≡ one ++ gather f items = subst (λ (l : List NodeId). after ++ gather f l ≡ one ++ gather f items) done told in
    sym (append-nil after) ∙ all ∙ ap (λ (l : List NodeId). l ++ gather f items) one-is ∙ append_assoc before own (gather f items) ∙ ap (λ (l : List NodeId). before ++ l) (sym whole-is)

-- one more node
pub node_step : (f : Node → Form) (nodes : List Node) (i : ℕ) (node : Node) (before after whole : List Form) (made : Form)
    → slice_get nodes i ≡ Some node → before ++ map f (drop i nodes) ≡ whole → after ≡ before ++ made ∷ [] → made ≡ f node
    → after ++ map f (drop (i + 1) nodes) ≡ whole
node_step f nodes i node before after whole made at told pushed is =
    let cut : drop i nodes ≡ node ∷ drop (suc i) nodes = drop_at nodes i node at in
    let next : i + 1 ≡ suc i = omega arith in
    let here : before ++ (f node ∷ map f (drop (suc i) nodes)) ≡ whole = subst (λ (l : List Node). before ++ map f l ≡ whole) cut told in
    ap (λ (k : ℕ). after ++ map f (drop k nodes)) next
    ∙ ap (λ (l : List Form). l ++ map f (drop (suc i) nodes)) (pushed ∙ ap (λ (x : Form). before ++ x ∷ []) is)
    ∙ append_assoc before (f node ∷ []) (map f (drop (suc i) nodes)) ∙ here
