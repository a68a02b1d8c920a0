-- How far a build of graphs has come: the points, edges and steps of the graphs up to a node. The contracts of the build alone cite this;
-- what a graph is stands in Graph.antt (Python 3.12 language reference, sections 6 to 8, has the flow).
use Rattle.std.specs.Prelude.{ℕ, ◌≡◌, ◌<◌, ◌+◌, ◌^◌, List, [], ◌∷◌, ◌++◌, Option, None, Some, slice_get, length, cond, is_some, true, false, ◌⊎◌, ◌↔◌}
use Rattle.py_base.specs.declared.ids.NodeId.{NodeId}
use Rattle.py_base.specs.declared.ids.GraphId.{GraphId}
use Rattle.py_base.specs.declared.ids.PointId.{PointId}
use Rattle.flow_rows.specs.declared.point.Point.{Point}
use Rattle.flow_rows.specs.declared.edge.Edge.{Edge}
use Rattle.flow_rows.specs.declared.edge.EdgeKind.TheVariants as kinds
use Rattle.flow_rows.specs.declared.form.Form.{Form}
use Rattle.flow_rows.specs.Points.{edge, own, start}
use Rattle.flow_rows.specs.declared.ends.Ends.{Ends}
use Rattle.flow_rows.specs.Flow.{Has, run_at, HasGraph, IsEdgeOf, IsPointOf}
use Rattle.point_graph.specs.declared.numbers.Step.{Step}
use Rattle.point_graph.specs.declared.members.Members.{Members}
use Rattle.point_graph.specs.Numbers.{IsApart, Keeps, IsNumber, IsStep, AreNumbersOf}
use Rattle.point_graph.specs.Members.{IsMembers, AreGraphs, IsHome}
use Rattle.std.specs.List.{flat_map}
use Rattle.flow_rows.specs.Edges.{graph_edges, graph_points}
use Rattle.point_graph.specs.Order.{same_point, added_once, roots_below, start_edge}

-- one of the edges joins this point
abbrev pub Joins : List Edge → Point → Type 0
Joins edges p = (e : Edge) × Has edges e × ((e.from ≡ p) ⊎ (e.to ≡ p))

-- the edges within the graphs of the nodes before a number, and the points of these graphs
abbrev pub IsInnerBelow : List Form → List Ends → ℕ → Edge → Type 0
IsInnerBelow forms t n e = (root : NodeId) × (root.0 < n) × HasGraph forms root × IsEdgeOf forms t root e

abbrev pub IsPointBelow : List Form → List Ends → ℕ → Point → Type 0
IsPointBelow forms t n p = (root : NodeId) × (root.0 < n) × HasGraph forms root × IsPointOf forms t root p

-- the edge to the start of a graph, where its def or lambda is one of the points
abbrev pub IsStartOf : List Form → List Point → NodeId → Edge → Type 0
IsStartOf forms points root e = HasGraph forms root × Has points (own root 0) × (edge (own root 0) (start root) kinds.Start ≡ e)

abbrev pub IsStartBelow : List Form → List Point → ℕ → Edge → Type 0
IsStartBelow forms points n e = (root : NodeId) × (root.0 < n) × IsStartOf forms points root e

-- the steps are these edges, by the numbers of their points
pub record AreStepsOf (points : List Point) (IsOne : Edge → Type 0) (steps : List Step) : Type 0 where
  pub sound : (s : Step) → Has steps s → (e : Edge) × IsOne e × IsStep points e s
  pub known : (e : Edge) → IsOne e → (s : Step) × Has steps s × IsStep points e s

-- steps that came to others are these edges
pub record AreMore (points : List Point) (IsOne : Edge → Type 0) (old new : List Step) : Type 0 where
  pub old_stay : (s : Step) → Has old s → Has new s
  pub sound : (s : Step) → Has new s → Has old s ⊎ ((e : Edge) × IsOne e × IsStep points e s)
  pub known : (e : Edge) → IsOne e → (s : Step) × Has new s × IsStep points e s

-- the steps are these edges in their order, by the numbers of their points
abbrev pub AreStepsBy : List Point → List Edge → List Step → Type 0
AreStepsBy points [] [] = Unit {0}
AreStepsBy points [] (s ∷ steps) = ⊥
AreStepsBy points (e ∷ edges) [] = ⊥
AreStepsBy points (e ∷ edges) (s ∷ steps) = IsStep points e s × AreStepsBy points edges steps

-- these edges came to the steps, in their order and behind the others
abbrev pub Continues : List Point → List Edge → List Step → List Step → Type 0
Continues points edges old new = (added : List Step) × AreStepsBy points edges added × (new ≡ old ++ added)

-- the edge to the start of a node's graph, if it has one
abbrev pub start_at : List Form → List Point → NodeId → List Edge
start_at forms points root = cond (is_some (run_at forms root)) (start_edge points root) []

-- these points came in their order: to all points, and to those of a graph
pub record Comes (more points new_points : List Point) (list new_list : List PointId) : Type 0 where
  pub all : new_points ≡ added_once same_point points more
  pub own : (ps : List Point) → AreNumbersOf points list ps → AreNumbersOf new_points new_list (added_once same_point ps more)

-- each point has one number, and each number a graph
pub record IsNumbering (points : List Point) (homes : List GraphId) : Type 0 where
  pub apart : IsApart points
  pub long : length homes ≡ length points
  pub few : length points < 2 ^ 32

-- a list that grows by a number, or not at all where the number is within it
abbrev pub GrowsTo : ℕ → ℕ → ℕ → Type 0
GrowsTo old new at = ((new ≡ old) × (at < old)) ⊎ ((new ≡ old + 1) × (at ≡ old))

-- the list has just the points whose graph this is, each once
pub record IsListOf (homes : List GraphId) (graph : GraphId) (list : List PointId) : Type 0 where
  pub exact : (id : PointId) → Has list id ↔ (slice_get homes id.0 ≡ Some graph)
  pub once : IsApart list

-- no other graph takes points
abbrev pub TakesAlone : GraphId → List GraphId → List GraphId → Type 0
TakesAlone graph old new = (i : ℕ) (g : GraphId) → (g ≡ graph → ⊥) → slice_get new i ≡ Some g → slice_get old i ≡ Some g

-- points came to a graph: numbers, graphs of points, and the list of the graph's points
pub record Enters (graph : GraphId) (IsOne : Point → Type 0) (points new_points : List Point) (homes new_homes : List GraphId) (list new_list : List PointId) : Type 0 where
  pub numbering : IsNumbering new_points new_homes
  pub keeps : Keeps points new_points
  pub exact : (p : Point) → Has new_points p ↔ (Has points p ⊎ IsOne p)
  pub alone : TakesAlone graph homes new_homes
  pub of : IsListOf new_homes graph new_list
  pub list_keeps : Keeps list new_list
  pub sound : (id : PointId) → Has new_list id → Has list id ⊎ ((p : Point) × IsNumber new_points id p × IsOne p)
  pub known : (p : Point) → IsOne p → (id : PointId) × Has new_list id × IsNumber new_points id p

-- the graph of a node came to others
pub record Adds (forms : List Form) (t : List Ends) (root : NodeId) (points new_points : List Point) (homes new_homes : List GraphId) (steps new_steps : List Step) (m : Members) : Type 0 where
  pub numbering : IsNumbering new_points new_homes
  pub keeps : Keeps points new_points
  pub exact : (p : Point) → Has new_points p ↔ (Has points p ⊎ IsPointOf forms t root p)
  pub alone : TakesAlone (record { 0 = root.0 }) homes new_homes
  pub of : IsListOf new_homes (record { 0 = root.0 }) m.points
  pub members : IsMembers forms t new_points root m
  pub edges : AreMore new_points (IsEdgeOf forms t root) steps new_steps
  pub all : new_points ≡ added_once same_point points (graph_points forms t root)
  pub listed : Continues new_points (graph_edges forms t root) steps new_steps

-- the graph of a node came to others, if it has one
abbrev pub AddsAt : List Form → List Ends → NodeId → List Point → List Point → List GraphId → List GraphId → List Step → List Step → Option Members → Type 0
AddsAt forms t root points new_points homes new_homes steps new_steps None =
    (is_some (run_at forms root) ≡ false) × (new_points ≡ points) × (new_homes ≡ homes) × (new_steps ≡ steps)
AddsAt forms t root points new_points homes new_homes steps new_steps (Some m) =
    (is_some (run_at forms root) ≡ true) × Adds forms t root points new_points homes new_homes steps new_steps m

-- the graphs of the nodes before a number are there
pub record IsDraft (forms : List Form) (t : List Ends) (n : ℕ) (points : List Point) (homes : List GraphId) (steps : List Step) (graphs : List (Option Members)) : Type 0 where
  pub numbering : IsNumbering points homes
  pub exact : (p : Point) → Has points p ↔ IsPointBelow forms t n p
  pub each : AreGraphs forms t points n graphs
  pub home : (i : ℕ) (g : GraphId) → slice_get homes i ≡ Some g → IsHome graphs (record { 0 = i }) g
  pub edges : AreStepsOf points (IsInnerBelow forms t n) steps
  pub all : points ≡ added_once same_point [] (flat_map (graph_points forms t) (roots_below forms n))
  pub listed : AreStepsBy points (flat_map (graph_edges forms t) (roots_below forms n)) steps
