-- Which nodes a module binds (Python 3.12 language reference, 4.2.1, "Binding of names"; 7.2 for targets, 7.5 for `del`, 7.11 for
-- imports, 8.6 for captures): names, and the attributes that are targets.
use Rattle.std.specs.Prelude.{ℕ, zero, suc, Bool, true, false, List, [], ◌∷◌, ◌++◌, length, take, if◌then◌else◌}
use Rattle.py_base.specs.declared.ids.NodeId.{NodeId}
use Rattle.py_base.specs.declared.node.Node.{Node}
use Rattle.py_base.specs.declared.node.NodeKind.{NodeKind}
use Rattle.py_base.specs.declared.node.NodeKind.TheVariants as kinds
use Rattle.py_base.specs.Tree.{Arena}
use Rattle.py_scopes.specs.Kinds.{binds_part}
use Rattle.flow_rows.specs.declared.form.Form.{Form}
use Rattle.flow_rows.specs.declared.form.Form.TheVariants as forms
use Rattle.py_base.specs.Nodes.{kind_at, parts_at}
use Rattle.flow_forms.specs.Patterns.{gather}
use Rattle.flow_forms.specs.Forms.{forms_of}

-- a name or an attribute
abbrev pub is_place : NodeKind → Bool
is_place kinds.Name = true
is_place kinds.Attribute = true
is_place kind = false

-- what holds targets: lists of them, brackets, and `*`; a subscript is a target too, but no reference
abbrev pub holds_targets : NodeKind → Bool
holds_targets kinds.Entries = true
holds_targets kinds.Targets = true
holds_targets kinds.Round = true
holds_targets kinds.Square = true
holds_targets kinds.Starred = true
holds_targets kind = false

abbrev pub held : NodeKind → List NodeId → List NodeId
held kind parts = if holds_targets kind then parts else []

-- THE TARGETS in what is assigned to, from left to right, down to a depth; the tree of a line is at most 256 high
abbrev pub targets : ℕ → List Node → NodeId → List NodeId
targets zero nodes n = []
targets (suc left) nodes n =
    if is_place (kind_at nodes n) then n ∷ [] else gather (targets left nodes) (held (kind_at nodes n) (parts_at nodes n))

-- `import` binds a name, of a dotted name the first; one with `as` binds for itself
abbrev pub first_in : NodeId → NodeKind → List NodeId → List NodeId
first_in n kinds.Name parts = n ∷ []
first_in n kinds.DottedName parts = take 1 parts
first_in n kind parts = []

abbrev pub first_name : List Node → NodeId → List NodeId
first_name nodes n = first_in n (kind_at nodes n) (parts_at nodes n)

-- the targets in the i-th of n parts, where a node of the kind binds it
abbrev pub bound_part : List Node → NodeKind → ℕ → ℕ → NodeId → List NodeId
bound_part nodes kind n i p = if binds_part kind i n then targets 256 nodes p else []

-- those in the parts from the i-th on
abbrev pub bound_from : List Node → NodeKind → ℕ → ℕ → List NodeId → List NodeId
bound_from nodes kind n i [] = []
bound_from nodes kind n i (p ∷ more) = bound_part nodes kind n i p ++ bound_from nodes kind n (suc i) more

-- What a node binds. The target of an augmented assignment is read where it stands, and the statement binds it; a pattern binds what its
-- case captures.
abbrev pub bound_by : List Node → NodeKind → List NodeId → List NodeId
bound_by nodes kinds.AugmentedAssign parts = []
bound_by nodes kinds.Case parts = []
bound_by nodes kinds.Import parts = gather (first_name nodes) parts
bound_by nodes kind parts = bound_from nodes kind (length parts) 0 parts

-- what a case captures
abbrev pub captured_by : Form → List NodeId
captured_by (forms.Case case) = case.captures
captured_by form = []

-- what each node gives, in order
abbrev pub gather_nodes : (Node → List NodeId) → List Node → List NodeId
gather_nodes f [] = []
gather_nodes f (node ∷ more) = f node ++ gather_nodes f more

abbrev pub captured_of : List Form → List NodeId
captured_of [] = []
captured_of (form ∷ more) = captured_by form ++ captured_of more

-- ALL NODES THAT ARE BOUND
abbrev pub bound_nodes : Arena → List NodeId
bound_nodes a = gather_nodes (λ (node : Node). bound_by a.nodes node.kind node.parts) a.nodes ++ captured_of (forms_of a)
