-- The graphs of a tree, by numbers: which number has which point, which edges lead to it, and which graph it is of (the edges are those of
-- the flow; Python 3.12 language reference, sections 6 to 8).
use Rattle.std.specs.Prelude.{ℕ, Bool, true, false, ◌≡◌, ◌<◌, ◌^◌, List, [], Option, None, Some, slice_get, map, length, ◌↔◌}
use Rattle.std.specs.List.{position}
use Rattle.py_base.specs.declared.ids.NodeId.{NodeId}
use Rattle.py_base.specs.declared.ids.GraphId.{GraphId}
use Rattle.py_base.specs.declared.ids.PointId.{PointId}
use Rattle.py_base.specs.Tree.{Arena}
use Rattle.flow_rows.specs.declared.point.Point.{Point}
use Rattle.flow_rows.specs.declared.edge.EdgeKind.{EdgeKind}
use Rattle.flow_rows.specs.declared.edge.EdgeKind.TheVariants as edges
use Rattle.flow_rows.specs.declared.form.Form.{Form}
use Rattle.flow_rows.specs.Points.{edge}
use Rattle.flow_rows.specs.declared.ends.Ends.{Ends}
use Rattle.flow_rows.specs.Ends.{ends_table}
use Rattle.flow_rows.specs.Flow.{Has, IsPoint, IsEdge}
use Rattle.point_graph.specs.declared.incoming.Way.{Way}
use Rattle.point_graph.specs.declared.members.Members.{Members}
use Rattle.point_graph.specs.Annotations.{run_forms}
use Rattle.point_graph.specs.Members.{AreGraphs, AreHomes}
use Rattle.point_graph.specs.Numbers.{IsApart, IsNumber, AreWithin, list_at, way_begin}
use Rattle.point_graph.specs.Order.{all_points, all_edges, edges_to, begin_of}
use Rattle.point_graph.specs.Operands.{operands_of}

-- what the clauses of `PointGraph` see: the points by their numbers, for each number where edges to it come from, and their kinds, the points
-- of the graph of each node, the graph of each point, and of each node the operand and the first and last point
pub record Numbered : Type 0 where
  pub points : List Point
  pub antecedents : List (List PointId)
  pub kinds : List (List EdgeKind)
  pub graphs : List (Option Members)
  pub homes : List GraphId
  pub operands : List (Option NodeId)
  pub ends : List Ends

-- Just the points of the graphs have numbers, each one. The ways to a number are the edges that lead to its point: place by place, where
-- each comes from, and its kind. Points are numbered in their order, and the edges to a point stand in theirs, each as often as it is listed.
pub record AreNumbered (forms : List Form) (t : List Ends) (g : Numbered) : Type 0 where
  pub apart : IsApart g.points
  pub points : (p : Point) → Has g.points p ↔ IsPoint forms t p
  pub graphs : AreGraphs forms t g.points (length forms) g.graphs
  pub homes : AreHomes g.graphs (length g.points) g.homes
  pub operands : g.operands ≡ operands_of forms
  pub ends : g.ends ≡ t
  pub ways : List (List Way)
  pub long : length ways ≡ length g.points
  pub sources : g.antecedents ≡ map (λ (ws : List Way). map (λ (w : Way). w.from) ws) ways
  pub labels : g.kinds ≡ map (λ (ws : List Way). map (λ (w : Way). w.kind) ws) ways
  pub exact : (w : Way) (j : ℕ) (q : Point) → slice_get g.points j ≡ Some q
      → Has (list_at ways j) w ↔ ((p : Point) × IsNumber g.points w.from p × IsEdge forms t (edge p q w.kind))
  pub listed : g.points ≡ all_points forms t
  pub ordered : (j : ℕ) (q : Point) → slice_get g.points j ≡ Some q
      → map (way_begin g.points) (list_at ways j) ≡ map begin_of (edges_to (all_edges forms t) q)

-- THE GRAPHS OF A TREE, where the marked nodes name `cast`
abbrev pub IsGraph : Arena → List Bool → Numbered → Type 0
IsGraph a casts g = AreNumbered (run_forms a casts) (ends_table (run_forms a casts)) g

-- the numbers that a graph gives are those of its points, and the graph of a point is one of its graphs
pub record IsClosed (g : Numbered) : Type 0 where
  pub few : length g.points < 2 ^ 32
  pub sources : (j : ℕ) (ids : List PointId) → slice_get g.antecedents j ≡ Some ids → AreWithin (length g.points) ids
  pub long : map length g.kinds ≡ map length g.antecedents
  pub members : (n : ℕ) (m : Members) → slice_get g.graphs n ≡ Some (Some m) → AreWithin (length g.points) m.points × (m.end.0 < length g.points)
  pub homes : length g.homes ≡ length g.points
  pub owners : (i : ℕ) (h : GraphId) → slice_get g.homes i ≡ Some h → (m : Members) × (slice_get g.graphs h.0 ≡ Some (Some m))

-- a list at a number, none where there is no such number
abbrev pub listed_or : {A : Type 0} → Option (List A) → List A
listed_or None = []
listed_or (Some xs) = xs

-- the graph of a node, its points, and its end, by what stands at the node's number
abbrev pub graph_id : NodeId → Option (Option Members) → Option GraphId
graph_id n (Some (Some m)) = Some (record { 0 = n.0 })
graph_id n at = None

abbrev pub points_or : Option (Option Members) → List PointId
points_or (Some (Some m)) = m.points
points_or at = []

abbrev pub end_or : Option (Option Members) → PointId
end_or (Some (Some m)) = m.end
end_or at = record { 0 = 0 }

-- where the first call edge among those that lead to a point comes from
abbrev pub is_call : EdgeKind → Bool
is_call (edges.Call n) = true
is_call kind = false

abbrev pub item_at : {A : Type 0} → List A → Option ℕ → Option A
item_at xs None = None
item_at xs (Some i) = slice_get xs i

abbrev pub call_source : List PointId → List EdgeKind → Option PointId
call_source sources kinds = item_at sources (position is_call kinds)

-- the graph of a point, and number 0 where there is no such point
abbrev pub home_or : Option GraphId → GraphId
home_or (Some g) = g
home_or None = record { 0 = 0 }
