-- The points of a node, one for each role and each copy of the `finally` blocks around it, and edges between points (Python 3.12
-- language reference, sections 6 to 8, for the order of evaluation; points and copies are this project's own).
use Rattle.std.specs.Prelude.{ℕ, ◌*◌, ◌+◌}
use Rattle.py_base.specs.declared.ids.NodeId.{NodeId}
use Rattle.flow_rows.specs.declared.point.Point.{Point}
use Rattle.flow_rows.specs.declared.point.Role.TheVariants as roles
use Rattle.flow_rows.specs.declared.edge.Edge.{Edge}
use Rattle.flow_rows.specs.declared.edge.EdgeKind.{EdgeKind}

-- the point of a node itself
abbrev pub own : NodeId → ℕ → Point
own n c = record { node = n; role = roles.Own; copy = c }

-- the label of a loop
abbrev pub again : NodeId → ℕ → Point
again n c = record { node = n; role = roles.Again; copy = c }

-- the label behind a node
abbrev pub behind : NodeId → ℕ → Point
behind n c = record { node = n; role = roles.Behind; copy = c }

-- where an assertion fails
abbrev pub fail : NodeId → ℕ → Point
fail n c = record { node = n; role = roles.Fail; copy = c }

-- the label through which the handlers of a `try` are entered
abbrev pub handlers : NodeId → ℕ → Point
handlers n c = record { node = n; role = roles.Handlers; copy = c }

-- the start of a graph
abbrev pub start : NodeId → Point
start n = record { node = n; role = roles.Start; copy = 0 }

-- the copies of a `finally` block that stands in copy c: from the end of the checked one nothing goes on
abbrev pub checked : ℕ → ℕ
checked c = 2 * c

abbrev pub normal : ℕ → ℕ
normal c = 2 * c + 1

abbrev pub edge : Point → Point → EdgeKind → Edge
edge a b kind = record { from = a; to = b; kind = kind }
