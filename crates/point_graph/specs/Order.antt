-- The one order in which points and edges are listed: graph by graph in the order of the nodes, of each graph its start, its end and what its
-- edges join, as the rows of its forms give them (an order of this project's own; Python 3.12 language reference, sections 6 to 8, has the flow).
use Rattle.std.specs.Prelude.{ℕ, zero, suc, Bool, true, false, ◌&&◌, nat_eq, List, [], ◌∷◌, ◌++◌, Option, Some, slice_get, length, filter, cond, is_some}
use Rattle.std.specs.List.{flat_map, list_any}
use Rattle.py_base.specs.declared.ids.NodeId.{NodeId}
use Rattle.flow_rows.specs.declared.point.Point.{Point}
use Rattle.flow_rows.specs.declared.point.Role.{Role}
use Rattle.flow_rows.specs.declared.point.Role.TheVariants as roles
use Rattle.flow_rows.specs.declared.edge.Edge.{Edge}
use Rattle.flow_rows.specs.declared.edge.EdgeKind.{EdgeKind}
use Rattle.flow_rows.specs.declared.edge.EdgeKind.TheVariants as kinds
use Rattle.flow_rows.specs.declared.form.Form.{Form}
use Rattle.flow_rows.specs.declared.ends.Ends.{Ends}
use Rattle.flow_rows.specs.Points.{edge, own, start}
use Rattle.flow_rows.specs.Flow.{run_at}
use Rattle.flow_rows.specs.Edges.{graph_edges, graph_points}

-- one role
abbrev pub same_role : Role → Role → Bool
same_role roles.Own roles.Own = true
same_role roles.Again roles.Again = true
same_role roles.Behind roles.Behind = true
same_role roles.Fail roles.Fail = true
same_role roles.Handlers roles.Handlers = true
same_role roles.Start roles.Start = true
same_role one other = false

-- one point
abbrev pub same_point : Point → Point → Bool
same_point p q = nat_eq p.node.0 q.node.0 && same_role p.role q.role && nat_eq p.copy q.copy

-- items come to a list one by one, each that isn't in it yet
abbrev pub added_once : {A : Type 0} → (A → A → Bool) → List A → List A → List A
added_once same old [] = old
added_once same old (x ∷ more) = added_once same (cond (list_any (same x) old) old (old ++ x ∷ [])) more

-- the nodes before a number that have a graph
abbrev pub node : ℕ → NodeId
node n = record { 0 = n }

abbrev pub roots_below : List Form → ℕ → List NodeId
roots_below forms zero = []
roots_below forms (suc n) = roots_below forms n ++ cond (is_some (run_at forms (node n))) (node n ∷ []) []

-- the module, the defs and the lambdas
abbrev pub roots : List Form → List NodeId
roots forms = roots_below forms (length forms)

-- THE POINTS OF A GRAPH IN THEIR ORDER, and those of a tree, each where it comes first
abbrev pub points_of : List Form → List Ends → NodeId → List Point
points_of forms t root = added_once same_point [] (graph_points forms t root)

abbrev pub all_points : List Form → List Ends → List Point
all_points forms t = added_once same_point [] (flat_map (graph_points forms t) (roots forms))

-- the edge to the start of a graph, where its def or lambda is a point
abbrev pub start_edge : List Point → NodeId → List Edge
start_edge points root = cond (list_any (same_point (own root 0)) points) (edge (own root 0) (start root) kinds.Start ∷ []) []

-- THE EDGES OF A TREE IN THEIR ORDER: those within its graphs, and behind them those to the starts
abbrev pub all_edges : List Form → List Ends → List Edge
all_edges forms t = flat_map (graph_edges forms t) (roots forms) ++ flat_map (start_edge (all_points forms t)) (roots forms)

-- those that lead to a point
abbrev pub edges_to : List Edge → Point → List Edge
edges_to edges q = filter (λ (e : Edge). same_point e.to q) edges

-- where an edge comes from and its kind
pub record Begin : Type 0 where
  pub from : Option Point
  pub kind : EdgeKind

abbrev pub begin_of : Edge → Begin
begin_of e = record { from = Some e.from; kind = e.kind }
