-- References belong to the graphs at whose points they occur.
use Rattle.std.proofs.Common.{◌≡◌, ◌<◌, ℕ, List, length, refl, ap, sym, ◌∙◌, subst, inr, Option, None, Some, slice_get}
use Rattle.py_base.specs.declared.ids.NodeId.{NodeId}
use Rattle.py_base.specs.declared.ids.PointId.{PointId}
use Rattle.py_base.specs.declared.ids.RefId.{RefId}
use Rattle.py_base.specs.declared.ids.SymId.{SymId}
use Rattle.py_base.specs.declared.node.NodeKind.{NodeKind}
use Rattle.py_base.specs.declared.node.NodeKind.TheVariants as kinds
use Rattle.py_base.specs.Tree.{Arena}
use Rattle.py_base.specs.Nodes.{kind_at, parts_at}
use Rattle.py_scopes.specs.declared.owner.Owner.{Owner}
use Rattle.py_scopes.specs.declared.owner.Owner.TheVariants as owners
use Rattle.py_scopes.specs.Table.{ScopeTable, IsWhole}
use Rattle.flow_rows.specs.declared.point.Point.{Point}
use Rattle.flow_rows.specs.declared.point.Role.{Role}
use Rattle.flow_rows.specs.declared.point.Role.TheVariants as roles
use Rattle.flow_rows.specs.Flow.{Has}
use Rattle.point_graph.specs.declared.members.Members.{Members}
use Rattle.point_graph.specs.Graph.{points_or}
use Rattle.point_graph.specs.Numbers.{IsNumber}
use Rattle.node_references.specs.declared.reference.Root.TheVariants as roots
use Rattle.node_references.specs.Reference.{Reference}
use Rattle.node_references.specs.declared.reference.Root.{Root}
use Rattle.node_references.specs.Laws.{RootsAreOwned}
use Rattle.node_references.specs.References.{bare, of_owner, within, by_shape, shape, reference_of}
use Rattle.node_references.specs.Numbers.{flat}
use Rattle.node_references.specs.Marks.{is_among}
use Rattle.flow_graph.specs.Targets.{bound_nodes}
use Rattle.flow_graph.specs.Bindings.{binder_by, bound_by_binder, subject_of, binding}
use Rattle.flow_graph.specs.Graph.{Flow, IsFlow}
use Rattle.flow_graph.specs.Table.{OccursAt, AreOccurring, IsBindingOf, bound_id}
use Rattle.flow_graph.specs.Laws.{HasBoth}

pub occurring_there : (a : Arena) (t : ScopeTable) (g : Flow) → IsFlow a t g → (n : ℕ) (m : Members) (refs : List RefId) → HasBoth g n m refs
    → (p : PointId) (r : RefId) → Has m.points p → OccursAt g.points.points g.references.reads g.references.bindings p r → Has refs r
occurring_there a t g flow n m refs at p r has occurs =
    let are : AreOccurring g.points.points g.references.reads g.references.bindings m.points refs =
    subst (λ (l : Option (Option Members)). AreOccurring g.points.points g.references.reads g.references.bindings (points_or l) refs) at.0
    (flow.references.graphs n refs at.1) in
    (are.exact r).1 (p, has, occurs)

-- a `match` statement stands for its hidden reference
match_reference : (a : Arena) (os : List Owner) (n : NodeId) → kind_at a.nodes n ≡ kinds.MatchStatement → reference_of a os n ≡ Some (bare (roots.Subject n))
unfolding reference_of
match_reference a os n is = ap (λ (k : NodeKind). by_shape (within n.0 a os) a os n (shape k (parts_at a.nodes n))) is

-- and binds it at its own point
match_binding : (a : Arena) (os : List Owner) (q : Point) → q.role ≡ roles.Own → kind_at a.nodes q.node ≡ kinds.MatchStatement
    → binding a os (Some q) ≡ Some (bare (roots.Subject q.node), subject_of a.nodes q.node)
match_binding a os q own is =
    ap (λ (k : NodeKind). bound_by_binder a os (binder_by a.nodes (is_among (bound_nodes a) q.node) q.node k (parts_at a.nodes q.node) q.role)) is
    ∙ ap (λ (r : Role). bound_by_binder a os (binder_by a.nodes (is_among (bound_nodes a) q.node) q.node kinds.MatchStatement (parts_at a.nodes q.node) r)) own
    ∙ rw (match_reference a os q.node is) refl

bound_number : (list : List Reference) (x : Option (RefId × NodeId)) (b : Reference × NodeId) → IsBindingOf list x (Some b)
    → (r : RefId) × (bound_id x ≡ Some r) × (slice_get list r.0 ≡ Some b.0)
bound_number list None b h = absurd h
bound_number list (Some x) b h = (x.0, refl, h.0)

pub hidden_there : (a : Arena) (t : ScopeTable) (g : Flow) → IsFlow a t g → (n : ℕ) (m : Members) (refs : List RefId) → HasBoth g n m refs
    → (p : PointId) (q : Point) → Has m.points p → IsNumber g.points.points p q → q.role ≡ roles.Own → kind_at a.nodes q.node ≡ kinds.MatchStatement
    → (r : RefId) × (slice_get g.references.list r.0 ≡ Some (bare (roots.Subject q.node))) × Has refs r
hidden_there a t g flow n m refs at p q has number own is =
    let bound : IsBindingOf g.references.list (flat (slice_get g.references.bindings p.0)) (Some (bare (roots.Subject q.node), subject_of a.nodes q.node)) =
    subst (λ (b : Option (Reference × NodeId)). IsBindingOf g.references.list (flat (slice_get g.references.bindings p.0)) b)
    (ap (λ (o : Option Point). binding a t.owners o) number ∙ match_binding a t.owners q own is) (flow.references.bindings p) in
    let r = bound_number g.references.list (flat (slice_get g.references.bindings p.0)) _ bound in
    (r.0, r.2, occurring_there a t g flow n m refs at p r.0 has (inr r.1))

-- the symbol of an owner is one of those that there are
same_symbol : (k x : SymId) → ◌≡◌ {A = Option Reference} (Some (bare (roots.Symbol k))) (Some (bare (roots.Symbol x))) → k ≡ x
same_symbol k x h = root_same (ap (λ (r : Reference). r.root) (some_same h))
  where
    some_same : {p q : Reference} → Some p ≡ Some q → p ≡ q
    some_same e = cc e

    root_same : ◌≡◌ {A = Root} (roots.Symbol k) (roots.Symbol x) → k ≡ x
    root_same e = cc e

owner_symbol : (t : ScopeTable) → IsWhole t → (m : ℕ) (x : SymId) (o : Option Owner) → slice_get t.owners m ≡ o → of_owner o ≡ Some (bare (roots.Symbol x)) → x.0 < length t.bound
owner_symbol t whole m x (Some (owners.Local k)) e h = subst (λ (y : SymId). y.0 < length t.bound) (same_symbol k x h) (whole.owned m (owners.Local k) e)
owner_symbol t whole m x (Some (owners.Outer k)) e h = subst (λ (y : SymId). y.0 < length t.bound) (same_symbol k x h) (whole.owned m (owners.Outer k) e)
owner_symbol t whole m x (Some (owners.Builtin name)) e h = absurd (cc h)
owner_symbol t whole m x (Some owners.Undefined) e h = absurd (cc h)
owner_symbol t whole m x None e h = absurd (cc h)

pub root_symbol : RootsAreOwned → (a : Arena) (t : ScopeTable) (g : Flow) → IsWhole t → IsFlow a t g → (i : ℕ) (r : Reference) (x : SymId)
    → slice_get g.references.list i ≡ Some r → r.root ≡ roots.Symbol x → x.0 < length t.bound
root_symbol law a t g whole flow i r x at is =
    let n = flow.references.each i r at in
    let m = law a t.owners n.0 r x n.1 is in
    owner_symbol t whole m.0.0 x (slice_get t.owners m.0.0) refl m.1
