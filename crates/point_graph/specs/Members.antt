-- The points of each graph of a tree, by numbers: its start first, its end, and the points that its edges join (Python 3.12 language
-- reference, section 4.1, "Structure of a program", for what has a graph).
use Rattle.std.specs.Prelude.{ℕ, ◌≡◌, ◌≤◌, List, Option, None, Some, slice_get, length, ◌↔◌, is_some, false, true}
use Rattle.py_base.specs.declared.ids.NodeId.{NodeId}
use Rattle.py_base.specs.declared.ids.GraphId.{GraphId}
use Rattle.py_base.specs.declared.ids.PointId.{PointId}
use Rattle.flow_rows.specs.declared.point.Point.{Point}
use Rattle.flow_rows.specs.declared.form.Form.{Form}
use Rattle.flow_rows.specs.Points.{start}
use Rattle.flow_rows.specs.declared.ends.Ends.{Ends}
use Rattle.flow_rows.specs.Flow.{Has, run_at, end_point, IsPointOf}
use Rattle.point_graph.specs.declared.members.Members.{Members}
use Rattle.point_graph.specs.Numbers.{IsApart, IsNumber, AreNumbersOf}
use Rattle.point_graph.specs.Order.{points_of}

-- these are the points of a graph in their order, each once, the start first, and this is its end
pub record IsMembers (forms : List Form) (t : List Ends) (points : List Point) (root : NodeId) (m : Members) : Type 0 where
  pub first : (id : PointId) × (slice_get m.points 0 ≡ Some id) × IsNumber points id (start root)
  pub exact : (id : PointId) → Has m.points id ↔ ((p : Point) × IsNumber points id p × IsPointOf forms t root p)
  pub once : IsApart m.points
  pub listed : AreNumbersOf points m.points (points_of forms t root)
  pub end : IsNumber points m.end (end_point forms t root)

-- the graph of a node, where it has one
abbrev pub IsGraphAt : List Form → List Ends → List Point → NodeId → Option Members → Type 0
IsGraphAt forms t points root None = is_some (run_at forms root) ≡ false
IsGraphAt forms t points root (Some m) = (is_some (run_at forms root) ≡ true) × IsMembers forms t points root m

-- the graphs of the nodes before a number
abbrev pub AreGraphs : List Form → List Ends → List Point → ℕ → List (Option Members) → Type 0
AreGraphs forms t points count graphs =
    (length graphs ≡ count) × ((n : ℕ) (m : Option Members) → slice_get graphs n ≡ Some m → IsGraphAt forms t points (record { 0 = n }) m)

-- this is the graph of a point; where two had it, which no tree of a text brings about, it is the later one
pub record IsHome (graphs : List (Option Members)) (id : PointId) (g : GraphId) : Type 0 where
  pub members : Members
  pub at : slice_get graphs g.0 ≡ Some (Some members)
  pub has : Has members.points id
  pub last : (n : ℕ) (m : Members) → slice_get graphs n ≡ Some (Some m) → Has m.points id → n ≤ g.0

-- the graphs of the points before a number
abbrev pub AreHomes : List (Option Members) → ℕ → List GraphId → Type 0
AreHomes graphs count homes =
    (length homes ≡ count) × ((i : ℕ) (g : GraphId) → slice_get homes i ≡ Some g → IsHome graphs (record { 0 = i }) g)
