-- The edges of a node whose exits lead to points: those within it, and one from each exit to each point that its channel reaches (for
-- proofs alone; Python 3.12 language reference, sections 6 to 8, has the flow).
use Rattle.std.specs.Prelude.{ℕ, ◌≡◌, ◌<◌, List, [], ◌∷◌, ◌⊎◌}
use Rattle.py_base.specs.declared.ids.NodeId.{NodeId}
use Rattle.flow_rows.specs.declared.point.Point.{Point}
use Rattle.flow_rows.specs.declared.edge.Edge.{Edge}
use Rattle.flow_rows.specs.declared.form.Form.{Form}
use Rattle.flow_rows.specs.declared.route.Channel.{Channel}
use Rattle.flow_rows.specs.declared.route.Kid.{Kid}
use Rattle.flow_rows.specs.declared.route.Mode.{Mode}
use Rattle.flow_rows.specs.Routes.{leads, places}
use Rattle.flow_rows.specs.declared.ends.Ends.{Ends}
use Rattle.flow_rows.specs.declared.frame.Frame.{Frame, Top, Inside'}
use Rattle.flow_rows.specs.Edges.{inside}
use Rattle.flow_rows.specs.Flow.{Has, Leaves, Flows}

-- the points that exits on a channel lead to, through all routes around
abbrev pub targets : Frame → Channel → List Point
targets Top channel = []
targets (Inside' route at around) channel = places (leads route channel) (targets around)

abbrev pub Around : List Form → List Ends → NodeId → ℕ → Mode → (Channel → List Point) → Edge → Type 0
Around forms t n c m reach e =
    Flows forms t n c m e.from e.to e.kind
    ⊎ ((channel : Channel) × Leaves forms t n c m channel e.from e.kind × Has (reach channel) e.to)

-- the edges of the parts of a form
abbrev pub Parts : List Form → List Ends → NodeId → (Channel → List Point) → List Kid → Edge → Type 0
Parts forms t n reach [] e = ⊥
Parts forms t n reach (kid ∷ more) e =
    ((kid.node.0 < n.0) × Around forms t kid.node kid.copy kid.mode (inside kid.route reach) e)
    ⊎ Parts forms t n reach more e
