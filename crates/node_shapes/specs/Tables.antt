-- Helper definitions for private functions: what the tables of steps outward and of marks hold, and what a pass over the nodes puts into them. The
-- tables are this project's own; no standard speaks of them, and no public clause cites this file.
use Rattle.std.specs.Prelude.{ℕ, ◌≡◌, ◌==◌, Bool, false, ◌&&◌, ◌||◌, Option, Some, None, List, [], ◌∷◌, length, map, option_map, position, slice_get, if◌then◌else◌}
use Rattle.py_base.specs.declared.ids.NodeId.{NodeId}
use Rattle.py_base.specs.declared.node.Node.{Node}
use Rattle.py_base.specs.Nodes.{kind_at}
use Rattle.node_shapes.specs.declared.outward.Step.{Step}
use Rattle.node_shapes.specs.Outward.{step_if, step_of}
use Rattle.std.specs.List.Sorted.{IsNonDecreasingBy}
use Rattle.node_shapes.specs.Around.{function_around}
use Rattle.node_shapes.specs.Bodies.{is_that}
use Rattle.node_shapes.specs.Items.{first_ids}
use Rattle.node_shapes.specs.Kinds.{is_yield, is_case}
use Rattle.node_shapes.specs.Uses.{use_at}
use Rattle.node_shapes.specs.declared.part_uses.PartUse.{PartUse}
use Rattle.node_shapes.specs.declared.part_uses.PartUse.TheVariants as uses

-- the step outward from each node
abbrev pub steps_outward : List Node → List (Option Step)
steps_outward nodes = map (step_of nodes) (first_ids (length nodes))

abbrev pub no_step : NodeId → Option Step
no_step id = None

-- the step at a place of the table
abbrev pub step_or_none : Option (Option Step) → Option Step
step_or_none None = None
step_or_none (Some o) = o

-- the step from a part at its place to the node
abbrev pub step_from : List Node → ℕ → Node → ℕ → NodeId → Step
step_from nodes at n place part =
    record { around = record { 0 = at }; kind = n.kind; part = place; parts = length n.parts; inner = kind_at nodes part }

-- the first of two, if it is there, else the second
abbrev pub or_else : {X : Type 0} → Option X → Option X → Option X
or_else None y = y
or_else (Some x) y = Some x

-- at a place where nothing is, x is put; all other places stay
abbrev pub put_first : {X : Type 0} → ℕ → X → ℕ → Option X → Option X
put_first k x i old = if k == i then or_else old (Some x) else old

abbrev pub PutsFirst : {X : Type 0} → ℕ → X → List (Option X) → List (Option X) → Type 0
PutsFirst k x old new = (i : ℕ) → slice_get new i ≡ option_map (put_first k x i) (slice_get old i)

-- the step outward from the i-th node to the given one, where it is a part of that
abbrev pub step_to : List Node → ℕ → Option Node → ℕ → Option Step
step_to nodes at None i = None
step_to nodes at (Some n) i =
    step_if (kind_at nodes (record { 0 = i })) (record { 0 = at }) n.kind (length n.parts) (position (λ (p : NodeId). p.0 == i) n.parts) None

-- the steps to a node are put where there are none
abbrev pub PutsSteps : List Node → ℕ → List (Option Step) → List (Option Step) → Type 0
PutsSteps nodes at old new = (i : ℕ) → slice_get new i ≡ option_map (λ o. or_else o (step_to nodes at (slice_get nodes at) i)) (slice_get old i)

-- the numbers of the nodes don't fall
abbrev pub IsRising : List NodeId → Type 0
IsRising ns = IsNonDecreasingBy (λ (n : NodeId). n.0) ns

-- the function that a node makes a generator, if it is a `yield`
abbrev pub yielding : List Node → NodeId → Option NodeId
yielding nodes y = if is_yield (kind_at nodes y) then function_around nodes y else None

abbrev pub no_mark : NodeId → Bool
no_mark n = false

abbrev pub marked : Option NodeId → ℕ → Bool → Bool
marked node i old = old || is_that (record { 0 = i }) node

-- a node is marked, if there is one; all other marks stay
abbrev pub MarksNode : Option NodeId → List Bool → List Bool → Type 0
MarksNode node old new = (i : ℕ) → slice_get new i ≡ option_map (marked node i) (slice_get old i)

-- what is asked of the first step of a way
abbrev pub first_step : List Step → Option Step
first_step [] = None
first_step (s ∷ ss) = Some s

abbrev pub is_pattern_step : Option Step → Bool
is_pattern_step None = false
is_pattern_step (Some s) = is_case s.kind && s.part == 0

abbrev pub use_by : Option Step → PartUse
use_by None = uses.Read
use_by (Some s) = use_at s
