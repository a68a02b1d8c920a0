-- The edges of the flow in one order, each as often as the rows of the forms give it: the edges of a form's own, those from its exits, and
-- those of its parts in the order in which they run (Python 3.12 language reference, section 6.16, for the order of evaluation).
use Rattle.std.specs.Prelude.{ℕ, zero, suc, List, [], ◌∷◌, ◌++◌, cond, nat_lt}
use Rattle.std.specs.List.{flat_map}
use Rattle.py_base.specs.declared.ids.NodeId.{NodeId}
use Rattle.flow_rows.specs.declared.point.Point.{Point}
use Rattle.flow_rows.specs.declared.edge.Edge.{Edge}
use Rattle.flow_rows.specs.declared.form.Form.{Form}
use Rattle.flow_rows.specs.declared.route.Channel.{Channel}
use Rattle.flow_rows.specs.declared.route.Exit.{Exit}
use Rattle.flow_rows.specs.declared.route.Kid.{Kid}
use Rattle.flow_rows.specs.declared.route.Mode.{Mode}
use Rattle.flow_rows.specs.declared.route.Mode.TheVariants.{Body}
use Rattle.flow_rows.specs.declared.route.Route.{Route}
use Rattle.flow_rows.specs.declared.route.Row.{Row}
use Rattle.flow_rows.specs.declared.ends.Ends.{Ends}
use Rattle.flow_rows.specs.Points.{start}
use Rattle.flow_rows.specs.Routes.{leads, places, arrows_to}
use Rattle.flow_rows.specs.Flow.{row_at, end_point}

-- the edges from exits, by the points that each channel reaches
abbrev pub left : (Channel → List Point) → List Exit → List Edge
left reach [] = []
left reach (x ∷ more) = arrows_to x.from x.kind (reach x.channel) ++ left reach more

-- the points that a part's exits reach, by the part's route and what the channels of its form reach
abbrev pub inside : Route → (Channel → List Point) → Channel → List Point
inside route reach channel = places (leads route channel) reach

-- the edges of a part, which is an older node, by those of all such nodes
abbrev pub part_edges : (NodeId → ℕ → Mode → (Channel → List Point) → List Edge) → NodeId → (Channel → List Point) → Kid → List Edge
part_edges inner n reach kid = cond (nat_lt kid.node.0 n.0) (inner kid.node kid.copy kid.mode (inside kid.route reach)) []

abbrev pub row_edges : (NodeId → ℕ → Mode → (Channel → List Point) → List Edge) → NodeId → (Channel → List Point) → Row → List Edge
row_edges inner n reach row = row.arrows ++ left reach row.exits ++ flat_map (part_edges inner n reach) row.kids

-- down to a depth
abbrev pub edges_within : ℕ → List Form → List Ends → NodeId → ℕ → Mode → (Channel → List Point) → List Edge
edges_within zero forms t n c m reach = []
edges_within (suc left) forms t n c m reach = row_edges (edges_within left forms t) n reach (row_at forms t n c m)

-- the edges of a node in a copy and a mode; no node stands deeper than its number
unfoldable pub edges_around : List Form → List Ends → NodeId → ℕ → Mode → (Channel → List Point) → List Edge
edges_around forms t n c m reach = edges_within (suc n.0) forms t n c m reach

abbrev pub nowhere : Channel → List Point
nowhere channel = []

-- THE EDGES WITHIN A GRAPH as a list
abbrev pub graph_edges : List Form → List Ends → NodeId → List Edge
graph_edges forms t root = edges_around forms t root 0 Body nowhere

-- THE POINTS OF A GRAPH as a list, in which a point may stand again: its start, its end, and what its edges join
abbrev pub both_ends : Edge → List Point
both_ends e = e.from ∷ e.to ∷ []

abbrev pub graph_points : List Form → List Ends → NodeId → List Point
graph_points forms t root = start root ∷ end_point forms t root ∷ flat_map both_ends (graph_edges forms t root)
