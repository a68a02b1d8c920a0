-- What follows of the flow of a tree (this project's own laws; Python 3.12 language reference, 4.2 and 8.6, for what is bound).
use Rattle.std.specs.Prelude.{ℕ, ◌≡◌, ◌<◌, List, Some, slice_get, length}
use Rattle.py_base.specs.declared.node.NodeKind.TheVariants as kinds
use Rattle.py_base.specs.declared.ids.PointId.{PointId}
use Rattle.py_base.specs.declared.ids.RefId.{RefId}
use Rattle.py_base.specs.declared.ids.SymId.{SymId}
use Rattle.py_base.specs.Tree.{Arena}
use Rattle.py_base.specs.Nodes.{kind_at}
use Rattle.py_scopes.specs.Table.{ScopeTable, IsWhole}
use Rattle.flow_rows.specs.declared.point.Point.{Point}
use Rattle.flow_rows.specs.declared.point.Role.TheVariants as roles
use Rattle.flow_rows.specs.Flow.{Has}
use Rattle.point_graph.specs.declared.members.Members.{Members}
use Rattle.point_graph.specs.Numbers.{IsNumber}
use Rattle.node_references.specs.declared.reference.Root.TheVariants as roots
use Rattle.node_references.specs.Reference.{Reference}
use Rattle.node_references.specs.References.{bare}
use Rattle.flow_graph.specs.Graph.{Flow, IsFlow}
use Rattle.flow_graph.specs.Table.{OccursAt}

-- the graph of a node has these points and these references
abbrev pub HasBoth : Flow → ℕ → Members → List RefId → Type 0
HasBoth g n m refs = (slice_get g.points.graphs n ≡ Some (Some m)) × (slice_get g.references.graphs n ≡ Some refs)

-- what is read or bound at a point of a graph is one of the graph's references
abbrev pub ReferencesAreThere : Type 0
ReferencesAreThere = (a : Arena) (t : ScopeTable) (g : Flow) → IsFlow a t g → (n : ℕ) (m : Members) (refs : List RefId) → HasBoth g n m refs
    → (p : PointId) (r : RefId) → Has m.points p → OccursAt g.points.points g.references.reads g.references.bindings p r → Has refs r

-- and so is the hidden reference of a `match` whose own point is one of the graph's
abbrev pub HiddenReferencesAreThere : Type 0
HiddenReferencesAreThere = (a : Arena) (t : ScopeTable) (g : Flow) → IsFlow a t g → (n : ℕ) (m : Members) (refs : List RefId) → HasBoth g n m refs
    → (p : PointId) (q : Point) → Has m.points p → IsNumber g.points.points p q → q.role ≡ roles.Own → kind_at a.nodes q.node ≡ kinds.MatchStatement
    → (r : RefId) × (slice_get g.references.list r.0 ≡ Some (bare (roots.Subject q.node))) × Has refs r

-- the symbol that a reference begins with is one of those that there are
abbrev pub RootsAreSymbols : Type 0
RootsAreSymbols = (a : Arena) (t : ScopeTable) (g : Flow) → IsWhole t → IsFlow a t g → (i : ℕ) (r : Reference) (x : SymId)
    → slice_get g.references.list i ≡ Some r → r.root ≡ roots.Symbol x → x.0 < length t.bound
