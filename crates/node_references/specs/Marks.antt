-- Sets of nodes, and marks that say for each node whether it is in one (marks are this project's own; no standard speaks of them).
use Rattle.std.specs.Prelude.{ℕ, ◌≡◌, ◌<◌, Bool, false, List, slice_index_or, length}
use Rattle.std.specs.List.{list_any}
use Rattle.py_base.specs.declared.ids.NodeId.{NodeId}
use Rattle.py_scopes.specs.Way.{same_node}

-- a node is one of these
abbrev pub is_among : List NodeId → NodeId → Bool
is_among nodes n = list_any (same_node n) nodes

-- for each node before a number whether it is one of these
abbrev pub AreMarks : List NodeId → ℕ → List Bool → Type 0
AreMarks nodes count marks = (length marks ≡ count) × ((n : NodeId) → n.0 < count → slice_index_or marks n.0 false ≡ is_among nodes n)
