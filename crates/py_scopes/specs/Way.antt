-- The way from a node outward: the nodes around it, the innermost first, each with the part of it that leads in. No standard speaks of it:
-- the arena of nodes is this project's own (8.10 of the Python 3.12 language reference says which forms are generic).
use Rattle.std.specs.Prelude.{ℕ, zero, suc, ◌==◌, ◌&&◌, ◌||◌, Bool, Option, Some, None, List, [], ◌∷◌, length, position, slice_index_or}
use Rattle.std.specs.List.{list_any, position_or_len}
use Rattle.py_base.specs.declared.ids.NodeId.{NodeId}
use Rattle.py_base.specs.declared.node.NodeKind.{NodeKind}
use Rattle.py_base.specs.declared.node.Node.{Node}
use Rattle.py_base.specs.Nodes.{kind_at, parts_at}
use Rattle.py_scopes.specs.declared.way.Step.{Step}
use Rattle.py_scopes.specs.Kinds.{is_for, takes_types, takes_list, is_async, is_type_list}

abbrev pub same_node : NodeId → NodeId → Bool
same_node x y = x.0 == y.0

-- a list of type parameters is among the parts
abbrev pub has_list : List Node → NodeId → Bool
has_list nodes id = list_any (λ p. is_type_list (kind_at nodes p)) (parts_at nodes id)

-- the part is such a list, or the header that has one, behind `async` or not
abbrev pub brings_list : List Node → NodeKind → NodeId → Bool
brings_list nodes k p = is_type_list k || (takes_list k && has_list nodes p) || (is_async k && list_any (has_list nodes) (parts_at nodes p))

-- A def, a class or a `type` statement is generic where a list of type parameters is written (8.10).
abbrev pub is_generic : List Node → Node → Bool
is_generic nodes n = takes_types n.kind && list_any (λ p. brings_list nodes (kind_at nodes p) p) n.parts

-- the step from the i-th part of a node to the node
abbrev pub step_from : List Node → ℕ → Node → ℕ → Step
step_from nodes at n i = record {
  around = record { 0 = at };
  kind = n.kind;
  part = i;
  parts = length n.parts;
  inner = kind_at nodes (slice_index_or n.parts i (record { 0 = at }));
  first_for = position_or_len (λ p. is_for (kind_at nodes p)) n.parts;
  generic = is_generic nodes n;
}

abbrev pub step_if : List Node → ℕ → Node → Option ℕ → Option Step → Option Step
step_if nodes at n None other = other
step_if nodes at n (Some i) other = Some (step_from nodes at n i)

-- the first of the nodes from the given number on that has the node as a part
abbrev pub step_among : List Node → NodeId → ℕ → List Node → Option Step
step_among nodes id at [] = None
step_among nodes id at (n ∷ ns) = step_if nodes at n (position (λ p. same_node p id) n.parts) (step_among nodes id (suc at) ns)

-- THE STEP OUTWARD from a node: none from the root
abbrev pub step_out : List Node → NodeId → Option Step
step_out nodes id = step_among nodes id 0 nodes

abbrev pub go_on : Option Step → (NodeId → List Step) → List Step
go_on None further = []
go_on (Some s) further = s ∷ further s.around

-- the first steps outward, as many as are told
abbrev pub steps : ℕ → List Node → NodeId → List Step
steps zero nodes id = []
steps (suc n) nodes id = go_on (step_out nodes id) (steps n nodes)

-- THE WAY OUTWARD, which has no more steps than there are nodes
abbrev pub way_out : List Node → NodeId → List Step
way_out nodes id = steps (length nodes) nodes id
