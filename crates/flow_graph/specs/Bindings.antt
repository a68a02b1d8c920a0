-- Which reference a point reads, and which it binds (Python 3.12 language reference, 4.2.1, "Binding of names"; 7.2.1 for augmented
-- assignments, 8.4 for the name of an `except` clause, which is unbound at the handler's end, 8.6 for `match`).
use Rattle.std.specs.Prelude.{Bool, true, false, not, ◌&&◌, List, [], ◌∷◌, ◌++◌, Option, None, Some, if◌then◌else◌}
use Rattle.py_base.specs.declared.ids.NodeId.{NodeId}
use Rattle.py_base.specs.declared.node.Node.{Node}
use Rattle.py_base.specs.declared.node.NodeKind.{NodeKind}
use Rattle.py_base.specs.declared.node.NodeKind.TheVariants as kinds
use Rattle.py_base.specs.Tree.{Arena}
use Rattle.py_scopes.specs.declared.owner.Owner.{Owner}
use Rattle.flow_rows.specs.declared.point.Point.{Point}
use Rattle.flow_rows.specs.declared.point.Role.{Role}
use Rattle.flow_rows.specs.declared.point.Role.TheVariants as roles
use Rattle.py_base.specs.Nodes.{kind_at, parts_at}
use Rattle.flow_forms.specs.Clauses.{first_or}
use Rattle.node_references.specs.Reference.{Reference}
use Rattle.flow_graph.specs.declared.binding.Binder.{Binder}
use Rattle.node_references.specs.References.{reference_of}
use Rattle.node_references.specs.Marks.{is_among}
use Rattle.flow_graph.specs.Targets.{is_place, bound_nodes}

-- the nodes that run themselves, each for each of its copies
abbrev pub run_at : Role → NodeId → List NodeId
run_at roles.Own n = n ∷ []
run_at role n = []

abbrev pub run_nodes : List Point → List NodeId
run_nodes [] = []
run_nodes (p ∷ ps) = run_at p.role p.node ++ run_nodes ps

-- a name or an attribute that isn't bound
abbrev pub is_read : Arena → NodeId → Bool
is_read a n = is_place (kind_at a.nodes n) && not (is_among (bound_nodes a) n)

-- THE REFERENCE THAT IS READ AT A NODE: one that runs
abbrev pub read : Arena → List Owner → List Point → NodeId → Option Reference
read a os points n = if is_among (run_nodes points) n && is_read a n then reference_of a os n else None

abbrev pub binder : NodeId → NodeId → Option Binder
binder target node = Some (record { target = target; node = node })

abbrev pub binds_itself : Bool → NodeId → Option Binder
binds_itself true n = binder n n
binds_itself false n = None

-- a `match` statement binds its hidden reference to its subject
abbrev pub subject_of : List Node → NodeId → NodeId
subject_of nodes n = first_or n (parts_at nodes (first_or n (parts_at nodes n)))

-- what is bound at the point of a node itself: a target, the target of an augmented assignment, the hidden reference of a `match`
abbrev pub own_binder : List Node → Bool → NodeId → NodeKind → List NodeId → Option Binder
own_binder nodes bound n kinds.Name parts = binds_itself bound n
own_binder nodes bound n kinds.Attribute parts = binds_itself bound n
own_binder nodes bound n kinds.AugmentedAssign (target ∷ more) = binder target target
own_binder nodes bound n kinds.MatchStatement parts = binder n (subject_of nodes n)
own_binder nodes bound n kind parts = None

-- and at the label behind it: the name of an `except` clause is unbound
abbrev pub end_binder : NodeId → NodeKind → List NodeId → Option Binder
end_binder n kinds.Except (class ∷ name ∷ suite ∷ []) = binder name n
end_binder n kinds.ExceptStar (class ∷ name ∷ suite ∷ []) = binder name n
end_binder n kind parts = None

abbrev pub binder_by : List Node → Bool → NodeId → NodeKind → List NodeId → Role → Option Binder
binder_by nodes bound n kind parts roles.Own = own_binder nodes bound n kind parts
binder_by nodes bound n kind parts roles.Behind = end_binder n kind parts
binder_by nodes bound n kind parts role = None

-- what stands for the reference that is bound at a point, and the node that says to what it is bound
abbrev pub binder_at : Arena → Point → Option Binder
binder_at a p = binder_by a.nodes (is_among (bound_nodes a) p.node) p.node (kind_at a.nodes p.node) (parts_at a.nodes p.node) p.role

abbrev pub bound_to : Option Reference → NodeId → Option (Reference × NodeId)
bound_to None node = None
bound_to (Some r) node = Some (r, node)

abbrev pub bound_by_binder : Arena → List Owner → Option Binder → Option (Reference × NodeId)
bound_by_binder a os None = None
bound_by_binder a os (Some b) = bound_to (reference_of a os b.target) b.node

-- THE REFERENCE THAT A POINT BINDS, and the node that says to what: the name or the attribute itself, the subject of a `match` for its
-- hidden reference, and where the name of an `except` clause is unbound the clause
abbrev pub binding : Arena → List Owner → Option Point → Option (Reference × NodeId)
binding a os None = None
binding a os (Some p) = bound_by_binder a os (binder_at a p)
