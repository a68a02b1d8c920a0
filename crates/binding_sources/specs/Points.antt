-- What is bound where a node runs (Python 3.12 language reference, 4.2.1, "Binding of names"; 7.2.1 for augmented assignments, 8.4 for the name
-- of an `except` clause, which is unbound at the handler's end, 8.6 for `match`): a point of a node binds at most one reference.
use Rattle.std.specs.Prelude.{List, [], ◌∷◌, Option, None, Some}
use Rattle.std.specs.Option.{option_map}
use Rattle.py_base.specs.declared.ids.NodeId.{NodeId}
use Rattle.py_base.specs.Tree.{Arena}
use Rattle.py_base.specs.declared.node.NodeKind.{NodeKind}
use Rattle.py_base.specs.declared.node.NodeKind.TheVariants as kinds
use Rattle.py_base.specs.Nodes.{kind_at, parts_at}
use Rattle.py_scopes.specs.Table.{ScopeTable}
use Rattle.node_shapes.specs.declared.clauses.Clause.{Clause}
use Rattle.node_shapes.specs.declared.clauses.Header.{Header}
use Rattle.node_shapes.specs.declared.clauses.Header.TheVariants as headers
use Rattle.node_shapes.specs.Clauses.{clause, header}
use Rattle.binding_sources.specs.declared.sources.Source.{Source}
use Rattle.binding_sources.specs.declared.sources.Source.TheVariants as source
use Rattle.binding_sources.specs.Verdicts.{binding_source}

-- the target of an augmented assignment is read at its own point, and bound at that of the statement
abbrev pub unless_augmented : Option Source → Option Source
unless_augmented (Some (source.Augmented s)) = None
unless_augmented given = given

abbrev pub subject_by : Header → Option Source
subject_by (headers.Match subject) = Some (source.Value subject)
subject_by _ = None

abbrev pub subject_of : Arena → Option Clause → Option Source
subject_of a None = None
subject_of a (Some clause) = subject_by (header a.nodes clause.header)

abbrev pub augmented : Arena → ScopeTable → List NodeId → Option Source
augmented a t [] = None
augmented a t (target ∷ more) = binding_source a t target

abbrev pub own_by : Arena → ScopeTable → NodeId → NodeKind → List NodeId → Option Source
own_by a t n kinds.Name parts = unless_augmented (binding_source a t n)
own_by a t n kinds.Attribute parts = unless_augmented (binding_source a t n)
own_by a t n kinds.AugmentedAssign parts = augmented a t parts
own_by a t n kinds.MatchStatement parts = subject_of a (clause a.nodes n 0)
own_by a t n kind parts = None

-- TO WHAT THE POINT OF A NODE BINDS ITS REFERENCE: a name or an attribute itself, an augmented assignment its target, a `match` statement its
-- hidden reference to its subject; nothing where it binds none. A subscript is no reference.
abbrev pub own_source : Arena → ScopeTable → NodeId → Option Source
own_source a t n = own_by a t n (kind_at a.nodes n) (parts_at a.nodes n)

abbrev pub removed_by : Option NodeId → Option Source
removed_by name = option_map (λ n. source.Removed) name

abbrev pub end_by : Header → Option Source
end_by (headers.Except except) = removed_by except.name
end_by _ = None

-- AND THE LABEL BEHIND A NODE: the name of an `except` clause is removed there, by the node of the header
abbrev pub end_source : Arena → NodeId → Option Source
end_source a n = end_by (header a.nodes n)
