-- What follows from the definition of the edges (this project's own laws; Python 3.12 language reference, sections 6 to 8, has the flow).
use Rattle.std.specs.Prelude.{◌≡◌, List}
use Rattle.py_base.specs.declared.ids.NodeId.{NodeId}
use Rattle.flow_rows.specs.declared.point.Point.{Point}
use Rattle.flow_rows.specs.declared.point.Role.TheVariants as roles
use Rattle.flow_rows.specs.declared.edge.Edge.{Edge}
use Rattle.flow_rows.specs.declared.edge.EdgeKind.{EdgeKind}
use Rattle.flow_rows.specs.declared.edge.EdgeKind.TheVariants as kinds
use Rattle.flow_rows.specs.declared.form.Form.{Form}
use Rattle.flow_rows.specs.declared.ends.Ends.{Ends}
use Rattle.flow_rows.specs.Flow.{IsPointOf, IsEdge, HasGraph}

-- a point of the node itself, in some copy
abbrev pub IsOwn : NodeId → Point → Type 0
IsOwn n a = (a.node ≡ n) × (a.role ≡ roles.Own)

-- where an edge of a kind that names an exit leaves from
abbrev pub LeavesOwn : EdgeKind → Point → Type 0
LeavesOwn (kinds.True n) a = IsOwn n a
LeavesOwn (kinds.False n) a = IsOwn n a
LeavesOwn (kinds.Case n) a = IsOwn n a
LeavesOwn (kinds.NotCase n) a = IsOwn n a
LeavesOwn kind a = Unit {0}

-- an exit of a condition or of a case leaves the node's own point
abbrev pub ExitsLeaveOwnPoints : Type 0
ExitsLeaveOwnPoints = (forms : List Form) (t : List Ends) (e : Edge) → IsEdge forms t e → LeavesOwn e.kind e.from

-- both ends of an edge that leads to no start are points of one graph
abbrev pub EdgesStayInAGraph : Type 0
EdgesStayInAGraph = (forms : List Form) (t : List Ends) (e : Edge) → IsEdge forms t e → (e.kind ≡ kinds.Start → ⊥)
    → (root : NodeId) × HasGraph forms root × IsPointOf forms t root e.from × IsPointOf forms t root e.to
