-- What follows of the graphs of a tree, by numbers (this project's own laws; Python 3.12 language reference, sections 6 to 8, has the flow).
use Rattle.std.specs.Prelude.{ℕ, ◌≡◌, ◌↔◌, List, Option, Some, slice_get}
use Rattle.py_base.specs.declared.ids.NodeId.{NodeId}
use Rattle.py_base.specs.declared.ids.PointId.{PointId}
use Rattle.flow_rows.specs.declared.point.Point.{Point}
use Rattle.flow_rows.specs.declared.edge.EdgeKind.{EdgeKind}
use Rattle.flow_rows.specs.declared.edge.EdgeKind.TheVariants as kinds
use Rattle.flow_rows.specs.declared.form.Form.{Form}
use Rattle.flow_rows.specs.declared.ends.Ends.{Ends}
use Rattle.flow_rows.specs.Points.{edge, start}
use Rattle.flow_rows.specs.declared.edge.Edge.{Edge}
use Rattle.flow_rows.specs.Flow.{Has, HasGraph, IsPoint, IsPointOf, IsEdge}
use Rattle.flow_rows.specs.Laws.{LeavesOwn}
use Rattle.point_graph.specs.declared.members.Members.{Members}
use Rattle.point_graph.specs.Numbers.{IsNumber}
use Rattle.point_graph.specs.Order.{all_points, all_edges}
use Rattle.point_graph.specs.Graph.{Numbered, AreNumbered, listed_or}

-- the lists have just the points and the edges of the flow
pub record ListsAreExact : Type 0 where
  pub points : (forms : List Form) (t : List Ends) (p : Point) → Has (all_points forms t) p ↔ IsPoint forms t p
  pub edges : (forms : List Form) (t : List Ends) (e : Edge) → Has (all_edges forms t) e ↔ IsEdge forms t e

-- an edge joins points
abbrev pub EdgesJoinPoints : Type 0
EdgesJoinPoints = (forms : List Form) (t : List Ends) (e : Edge) → Has (all_edges forms t) e → Has (all_points forms t) e.from × Has (all_points forms t) e.to

-- an edge of a kind leads from one point to another
abbrev pub Leads : Numbered → PointId → PointId → EdgeKind → Type 0
Leads g from to kind =
    (i : ℕ) × (slice_get (listed_or (slice_get g.antecedents to.0)) i ≡ Some from) × (slice_get (listed_or (slice_get g.kinds to.0)) i ≡ Some kind)

-- these are points of one graph
abbrev pub AreTogether : Numbered → PointId → PointId → Type 0
AreTogether g one other = (n : ℕ) × (m : Members) × (slice_get g.graphs n ≡ Some (Some m)) × Has m.points one × Has m.points other

-- what leads from point to point is an edge of the tree
abbrev pub LeadsAreEdges : Type 0
LeadsAreEdges = (forms : List Form) (t : List Ends) (g : Numbered) → AreNumbered forms t g → (from to : PointId) (kind : EdgeKind) → Leads g from to kind
    → (p : Point) × (q : Point) × IsNumber g.points from p × IsNumber g.points to q × IsEdge forms t (edge p q kind)

-- both ends of an edge that leads to no start are points of one graph
abbrev pub EdgesStayInAGraph : Type 0
EdgesStayInAGraph = (forms : List Form) (t : List Ends) (g : Numbered) → AreNumbered forms t g → (from to : PointId) (kind : EdgeKind) → Leads g from to kind
    → (kind ≡ kinds.Start → ⊥) → AreTogether g from to

-- an exit of a condition or of a case leaves the node's own point
abbrev pub ExitsLeaveOwnPoints : Type 0
ExitsLeaveOwnPoints = (forms : List Form) (t : List Ends) (g : Numbered) → AreNumbered forms t g → (from to : PointId) (kind : EdgeKind) → Leads g from to kind
    → (p : Point) × IsNumber g.points from p × LeavesOwn kind p

-- the end of a graph is a point of it
abbrev pub EndsArePoints : Type 0
EndsArePoints = (forms : List Form) (t : List Ends) (g : Numbered) → AreNumbered forms t g → (n : ℕ) (m : Members) → slice_get g.graphs n ≡ Some (Some m)
    → Has m.points m.end

-- NO POINT IS IN TWO GRAPHS. It holds where each node runs at one place of one form.
abbrev pub AreApart : List Form → List Ends → Type 0
AreApart forms t = (one other : NodeId) (p : Point) → HasGraph forms one → HasGraph forms other → IsPointOf forms t one p → IsPointOf forms t other p → one ≡ other

-- Where no point is in two graphs, the graph of a point is the one that has it: both ends of an edge that leads to no start have one graph, and
-- a start has that of its own node.
pub record PointsHaveOneGraph : Type 0 where
  pub alone : (forms : List Form) (t : List Ends) (g : Numbered) → AreNumbered forms t g → AreApart forms t → (n : ℕ) (m : Members) (p : PointId)
      → slice_get g.graphs n ≡ Some (Some m) → Has m.points p → slice_get g.homes p.0 ≡ Some (record { 0 = n })
  pub edges : (forms : List Form) (t : List Ends) (g : Numbered) → AreNumbered forms t g → AreApart forms t → (from to : PointId) (kind : EdgeKind)
      → Leads g from to kind → (kind ≡ kinds.Start → ⊥) → slice_get g.homes from.0 ≡ slice_get g.homes to.0
  pub starts : (forms : List Form) (t : List Ends) (g : Numbered) → AreNumbered forms t g → AreApart forms t → (n : NodeId) (p : PointId)
      → HasGraph forms n → IsNumber g.points p (start n) → slice_get g.homes p.0 ≡ Some (record { 0 = n.0 })
