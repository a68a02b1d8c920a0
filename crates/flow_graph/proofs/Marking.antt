-- What is read and bound by marks, and tables by number.
use Rattle.std.proofs.Common.{◌≡◌, ℕ, ◌+◌, Bool, true, false, ◌&&◌, List, [], ◌∷◌, ◌++◌, refl, ap, arith, sym, ◌∙◌, subst, length, inl, inr, Option, None, Some, slice_get, slice_index_or, length-append, if◌then◌else◌}
use Rattle.std.proofs.lemmas.Bool.{cases_lt}
use Rattle.py_base.specs.declared.ids.NodeId.{NodeId}
use Rattle.py_base.specs.declared.ids.PointId.{PointId}
use Rattle.py_base.specs.declared.ids.RefId.{RefId}
use Rattle.py_base.specs.declared.node.Node.{Node}
use Rattle.py_base.specs.declared.node.NodeKind.TheVariants as kinds
use Rattle.py_base.specs.Tree.{Arena}
use Rattle.py_scopes.specs.declared.owner.Owner.{Owner}
use Rattle.flow_rows.specs.declared.point.Point.{Point}
use Rattle.flow_rows.specs.declared.point.Role.{Role}
use Rattle.flow_rows.specs.declared.point.Role.TheVariants as roles
use Rattle.py_base.specs.Nodes.{kind_at, parts_at}
use Rattle.node_references.specs.Reference.{Reference}
use Rattle.flow_graph.specs.declared.binding.Binder.{Binder}
use Rattle.node_references.specs.References.{reference_of}
use Rattle.node_references.specs.Marks.{is_among, AreMarks}
use Rattle.flow_graph.specs.Targets.{bound_nodes}
use Rattle.flow_graph.specs.Bindings.{run_nodes, is_read, read, binder_by, binder_at, bound_to, bound_by_binder, binding}
use Rattle.node_references.specs.Numbers.{flat, IsNumberOf}
use Rattle.flow_graph.specs.Table.{IsBindingOf}
use Rattle.node_references.specs.Numbering.{AreKnown}
use Rattle.flow_graph.specs.Numbering.{is_read_by, read_by, with_node, id_of, binding_id, IsTable}
use Rattle.node_references.proofs.Within.{get_old, get_none, lt_suc}
use Rattle.node_references.proofs.Links.{get_last}

-- one more row
pub table_more : {A : Type 0} (f : ℕ → A) (n : ℕ) (list new : List A) (x : A) → IsTable f n list → new ≡ list ++ x ∷ [] → x ≡ f n → IsTable f (n + 1) new
table_more f n list new x (long, each) pushed is = (
  rw pushed (omega (arith, length-append list (x ∷ []), long)),
  λ i lt. elim (lt_suc i n lt) [
    | inl old ↦ rw (pushed, get_old list x i (rw long old)) (each i old)
    | inr here ↦ rw (pushed, here, ← long, get_last list x) (ap Some (is ∙ ap f (sym long)))
  ],
)

and_false : (b : Bool) → (b && false) ≡ false
and_false true = refl
and_false false = refl

not_read : (a : Arena) (n : NodeId) → slice_get a.nodes n.0 ≡ None → is_read a n ≡ false
not_read a n e = rw e refl

-- what is read by marks and numbers is what is read
pub reads_right : (a : Arena) (os : List Owner) (points : List Point) (list : List Reference) (table : List (Option RefId)) (run bound : List Bool) (reads : List (Option RefId))
    → AreKnown a os list table → AreMarks (run_nodes points) (length a.nodes) run → AreMarks (bound_nodes a) (length a.nodes) bound
    → IsTable (λ (i : ℕ). read_by a.nodes run bound table (record { 0 = i })) (length a.nodes) reads
    → (n : NodeId) → IsNumberOf list (flat (slice_get reads n.0)) (read a os points n)
reads_right a os points list table run bound reads known runs bounds rows n = elim (cases_lt n.0 (length a.nodes)) [
  | inl lt ↦
      let same : (slice_index_or run n.0 false && is_read_by a.nodes bound n) ≡ (is_among (run_nodes points) n && is_read a n) = rw (runs.1 n lt, bounds.1 n lt) refl in
      let at : flat (slice_get reads n.0) ≡ (if is_among (run_nodes points) n && is_read a n then flat (slice_get table n.0) else None) =
      ap flat (rows.1 n.0 lt) ∙ ap (λ (b : Bool). if b then flat (slice_get table n.0) else None) same in
      subst (λ (x : Option RefId). IsNumberOf list x (read a os points n)) (sym at) (go (is_among (run_nodes points) n && is_read a n))
  | inr ge ↦
      let nothing : (is_among (run_nodes points) n && is_read a n) ≡ false = ap (λ b. is_among (run_nodes points) n && b) (not_read a n (get_none a.nodes n.0 ge)) ∙ and_false (is_among (run_nodes points) n) in
      let none : flat (slice_get reads n.0) ≡ None = ap flat (get_none reads n.0 (rw rows.0 ge)) in
      subst (λ (x : Option RefId). IsNumberOf list x (read a os points n)) (sym none)
      (subst (λ (b : Bool). IsNumberOf list None (if b then reference_of a os n else None)) (sym nothing) tt)
]
  where
    go : (b : Bool) → IsNumberOf list (if b then flat (slice_get table n.0) else None) (if b then reference_of a os n else None)
    go true = known n
    go false = tt

-- what is no node binds nothing
fault_none : (nodes : List Node) (b : Bool) (n : NodeId) (parts : List NodeId) (r : Role) → binder_by nodes b n kinds.Fault parts r ≡ None
fault_none nodes b n parts roles.Own = refl
fault_none nodes b n parts roles.Again = refl
fault_none nodes b n parts roles.Behind = refl
fault_none nodes b n parts roles.Fail = refl
fault_none nodes b n parts roles.Handlers = refl
fault_none nodes b n parts roles.Start = refl

binder_none : (nodes : List Node) (b : Bool) (n : NodeId) (r : Role) → slice_get nodes n.0 ≡ None → binder_by nodes b n (kind_at nodes n) (parts_at nodes n) r ≡ None
binder_none nodes b n r e = rw e (fault_none nodes b n [] r)

binder_same : (a : Arena) (bound : List Bool) (q : Point) → AreMarks (bound_nodes a) (length a.nodes) bound
    → binder_by a.nodes (slice_index_or bound q.node.0 false) q.node (kind_at a.nodes q.node) (parts_at a.nodes q.node) q.role ≡ binder_at a q
binder_same a bound q bounds = elim (cases_lt q.node.0 (length a.nodes)) [
  | inl lt ↦ ap (λ (b : Bool). binder_by a.nodes b q.node (kind_at a.nodes q.node) (parts_at a.nodes q.node) q.role) (bounds.1 q.node lt)
  | inr ge ↦ binder_none a.nodes (slice_index_or bound q.node.0 false) q.node q.role (get_none a.nodes q.node.0 ge)
      ∙ sym (binder_none a.nodes (is_among (bound_nodes a) q.node) q.node q.role (get_none a.nodes q.node.0 ge))
]

pairs : (list : List Reference) (x : Option RefId) (r : Option Reference) (n : NodeId) → IsNumberOf list x r → IsBindingOf list (with_node x n) (bound_to r n)
pairs list None None n h = tt
pairs list None (Some r) n h = absurd h
pairs list (Some id) None n h = absurd h
pairs list (Some id) (Some r) n h = (h, refl)

by_binder : (a : Arena) (os : List Owner) (list : List Reference) (table : List (Option RefId)) (b : Option Binder) → AreKnown a os list table
    → IsBindingOf list (id_of table b) (bound_by_binder a os b)
by_binder a os list table None known = tt
by_binder a os list table (Some b) known = pairs list (flat (slice_get table b.target.0)) (reference_of a os b.target) b.node (known b.target)

by_point : (a : Arena) (os : List Owner) (list : List Reference) (table : List (Option RefId)) (bound : List Bool) (p : Option Point) → AreKnown a os list table
    → AreMarks (bound_nodes a) (length a.nodes) bound → IsBindingOf list (binding_id a.nodes bound table p) (binding a os p)
by_point a os list table bound None known bounds = tt
by_point a os list table bound (Some q) known bounds =
    subst (λ (b : Option Binder). IsBindingOf list (id_of table b) (bound_by_binder a os (binder_at a q))) (sym (binder_same a bound q bounds))
    (by_binder a os list table (binder_at a q) known)

-- what is bound by marks and numbers is what is bound
pub bindings_right : (a : Arena) (os : List Owner) (points : List Point) (list : List Reference) (table : List (Option RefId)) (bound : List Bool) (bindings : List (Option (RefId × NodeId)))
    → AreKnown a os list table → AreMarks (bound_nodes a) (length a.nodes) bound
    → IsTable (λ (i : ℕ). binding_id a.nodes bound table (slice_get points i)) (length points) bindings
    → (p : PointId) → IsBindingOf list (flat (slice_get bindings p.0)) (binding a os (slice_get points p.0))
bindings_right a os points list table bound bindings known bounds rows p = elim (cases_lt p.0 (length points)) [
  | inl lt ↦ subst (λ (x : Option (RefId × NodeId)). IsBindingOf list x (binding a os (slice_get points p.0))) (sym (ap flat (rows.1 p.0 lt)))
      (by_point a os list table bound (slice_get points p.0) known bounds)
  | inr ge ↦ rw (get_none bindings p.0 (rw rows.0 ge), get_none points p.0 ge) tt
]
