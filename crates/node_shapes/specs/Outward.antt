-- The way from a node outward: the nodes around it, the innermost first, each with the place of the part that leads in (the arena of nodes is
-- this project's own).
use Rattle.std.specs.Prelude.{ℕ, zero, suc, ◌==◌, Bool, List, [], ◌∷◌, length, Option, None, Some, position, if◌then◌else◌}
use Rattle.py_base.specs.declared.ids.NodeId.{NodeId}
use Rattle.py_base.specs.declared.node.Node.{Node}
use Rattle.py_base.specs.declared.node.NodeKind.{NodeKind}
use Rattle.py_base.specs.Nodes.{kind_at}
use Rattle.node_shapes.specs.declared.outward.Step.{Step}

abbrev pub step_if : NodeKind → NodeId → NodeKind → ℕ → Option ℕ → Option Step → Option Step
step_if inner at kind count None other = other
step_if inner at kind count (Some i) other = Some (record { around = at; kind = kind; part = i; parts = count; inner = inner })

-- the first of the nodes from the given number on that has the node as a part
abbrev pub step_among : NodeKind → NodeId → ℕ → List Node → Option Step
step_among inner n at [] = None
step_among inner n at (x ∷ more) =
    step_if inner (record { 0 = at }) x.kind (length x.parts) (position (λ (p : NodeId). p.0 == n.0) x.parts) (step_among inner n (suc at) more)

-- THE STEP OUTWARD from a node, with its place among the parts of the node around it: none of the root
abbrev pub step_of : List Node → NodeId → Option Step
step_of nodes n = step_among (kind_at nodes n) n 0 nodes

abbrev pub outward_from : Option Step → (NodeId → List Step) → List Step
outward_from None further = []
outward_from (Some s) further = s ∷ further s.around

abbrev pub steps : ℕ → List Node → NodeId → List Step
steps zero nodes n = []
steps (suc left) nodes n = outward_from (step_of nodes n) (steps left nodes)

-- THE WAY OUTWARD, which has no more steps than there are nodes
abbrev pub outward : List Node → NodeId → List Step
outward nodes n = steps (length nodes) nodes n

-- THE FIRST NODE OF A KIND on the way, the nearest; none where none is around
abbrev pub first_around : (NodeKind → Bool) → List Step → Option NodeId
first_around passes [] = None
first_around passes (s ∷ ss) = if passes s.kind then Some s.around else first_around passes ss
