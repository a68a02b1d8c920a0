-- The flow of a tree: which exits a node has, which edges stand within it, and the edges and points of the graphs of its modules, defs
-- and lambdas (Python 3.12 language reference, sections 4.1 and 6 to 8; the textbook's flow and final labels: Nielson, Nielson, Hankin,
-- Principles of Program Analysis, section 2.1).
use Rattle.std.specs.Prelude.{ℕ, ◌≡◌, ◌<◌, List, [], ◌∷◌, Option, None, Some, slice_get, ◌⊎◌, cond, nat_lt}
use Rattle.py_base.specs.declared.ids.NodeId.{NodeId}
use Rattle.flow_rows.specs.declared.point.Point.{Point}
use Rattle.flow_rows.specs.declared.edge.Edge.{Edge}
use Rattle.flow_rows.specs.declared.edge.EdgeKind.{EdgeKind}
use Rattle.flow_rows.specs.declared.edge.EdgeKind.TheVariants as kinds
use Rattle.flow_rows.specs.declared.form.Form.{Form}
use Rattle.flow_rows.specs.declared.form.Form.TheVariants as forms
use Rattle.flow_rows.specs.declared.route.Channel.{Channel}
use Rattle.flow_rows.specs.declared.route.Dest.TheVariants.{To, Up}
use Rattle.flow_rows.specs.declared.route.Kid.{Kid}
use Rattle.flow_rows.specs.declared.route.Mode.{Mode}
use Rattle.flow_rows.specs.declared.route.Mode.TheVariants.{Value, Condition, Body}
use Rattle.flow_rows.specs.declared.route.Row.{Row}
use Rattle.flow_rows.specs.Points.{edge, own, start}
use Rattle.flow_rows.specs.Routes.{leads, exit}
use Rattle.flow_rows.specs.declared.ends.Ends.{Ends}
use Rattle.flow_rows.specs.Paths.{empty, path_end}
use Rattle.flow_rows.specs.Rows.{row, graph_row}

-- this is one of the list
abbrev pub Has : {A : Type 0} → List A → A → Type 0
Has [] x = ⊥
Has (y ∷ ys) x = (y ≡ x) ⊎ Has ys x

abbrev pub row_of : List Ends → Option Form → NodeId → ℕ → Mode → Row
row_of t None n c m = empty
row_of t (Some form) n c Value = row t n form c Value
row_of t (Some form) n c Condition = row t n form c Condition
row_of t (Some form) n c Body = graph_row t n form

-- the row of a node in a copy and a mode; `finally` blocks are nested at most 4 deep, so there are at most 16 copies
abbrev pub row_at : List Form → List Ends → NodeId → ℕ → Mode → Row
row_at forms t n c m = cond (nat_lt c 16) (row_of t (slice_get forms n.0) n c m) empty

-- THE EXITS of a node: its own, and those of its parts that its row leads on. Parts are older nodes.
pub data Leaves (forms : List Form) (t : List Ends) : NodeId → ℕ → Mode → Channel → Point → EdgeKind → Type 0 where
  of_own : {n : NodeId} {c : ℕ} {m : Mode} {channel : Channel} {a : Point} {kind : EdgeKind}
      → Has (row_at forms t n c m).exits (exit channel a kind)
      → Leaves forms t n c m channel a kind
  of_part : {n : NodeId} {c : ℕ} {m : Mode} {channel : Channel} {a : Point} {kind : EdgeKind} (kid : Kid) (inner : Channel)
      → Has (row_at forms t n c m).kids kid → kid.node.0 < n.0
      → Leaves forms t kid.node kid.copy kid.mode inner a kind → Has (leads kid.route inner) (Up channel)
      → Leaves forms t n c m channel a kind

-- THE EDGES WITHIN a node: its own, those within its parts, and those from the exits of its parts to the points where its row leads them
pub data Flows (forms : List Form) (t : List Ends) : NodeId → ℕ → Mode → Point → Point → EdgeKind → Type 0 where
  by_own : {n : NodeId} {c : ℕ} {m : Mode} {a b : Point} {kind : EdgeKind}
      → Has (row_at forms t n c m).arrows (edge a b kind)
      → Flows forms t n c m a b kind
  by_part : {n : NodeId} {c : ℕ} {m : Mode} {a b : Point} {kind : EdgeKind} (kid : Kid)
      → Has (row_at forms t n c m).kids kid → kid.node.0 < n.0
      → Flows forms t kid.node kid.copy kid.mode a b kind
      → Flows forms t n c m a b kind
  by_exit : {n : NodeId} {c : ℕ} {m : Mode} {a b : Point} {kind : EdgeKind} (kid : Kid) (inner : Channel)
      → Has (row_at forms t n c m).kids kid → kid.node.0 < n.0
      → Leaves forms t kid.node kid.copy kid.mode inner a kind → Has (leads kid.route inner) (To b)
      → Flows forms t n c m a b kind

-- what runs in a graph, in order; only modules, defs and lambdas have one
abbrev pub run_of : Form → Option (List NodeId)
run_of (forms.Function function) = Some function.run
run_of (forms.Module statements) = Some statements
run_of form = None

abbrev pub run_by : Option Form → Option (List NodeId)
run_by None = None
run_by (Some form) = run_of form

abbrev pub run_at : List Form → NodeId → Option (List NodeId)
run_at forms n = run_by (slice_get forms n.0)

-- THE EDGES WITHIN THE GRAPH of a module, a def or a lambda
abbrev pub IsEdgeOf : List Form → List Ends → NodeId → Edge → Type 0
IsEdgeOf forms t root e = Flows forms t root 0 Body e.from e.to e.kind

-- the node has a graph
abbrev pub HasRun : Option (List NodeId) → Type 0
HasRun None = ⊥
HasRun (Some run) = Unit {0}

abbrev pub HasGraph : List Form → NodeId → Type 0
HasGraph forms n = HasRun (run_at forms n)

-- the end of a graph: the last point of what runs in it, or its start
abbrev pub end_by : List Ends → NodeId → Option (List NodeId) → Point
end_by t n None = start n
end_by t n (Some run) = path_end t 0 (start n) run

abbrev pub end_point : List Form → List Ends → NodeId → Point
end_point forms t n = end_by t n (run_at forms n)

-- THE POINTS OF A GRAPH: its start, its end, and the points that its edges join
abbrev pub IsPointOf : List Form → List Ends → NodeId → Point → Type 0
IsPointOf forms t root p =
    (start root ≡ p) ⊎ (end_point forms t root ≡ p) ⊎ ((e : Edge) × IsEdgeOf forms t root e × ((e.from ≡ p) ⊎ (e.to ≡ p)))

-- the edges within all graphs
abbrev pub IsInner : List Form → List Ends → Edge → Type 0
IsInner forms t e = (root : NodeId) × HasGraph forms root × IsEdgeOf forms t root e

-- a point of one of the graphs
abbrev pub IsPoint : List Form → List Ends → Point → Type 0
IsPoint forms t p = (root : NodeId) × HasGraph forms root × IsPointOf forms t root p

-- THE EDGES of a tree: those within its graphs, and one to the start of each graph from its def or lambda in the copy that is the
-- checked one at every level, where that is a point
abbrev pub IsEdge : List Form → List Ends → Edge → Type 0
IsEdge forms t e =
    IsInner forms t e
    ⊎ ((root : NodeId) × HasGraph forms root × IsPoint forms t (own root 0) × (edge (own root 0) (start root) kinds.Start ≡ e))
