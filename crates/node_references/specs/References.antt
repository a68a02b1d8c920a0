-- References, and the reference that a node stands for (Python 3.12 language reference, 6.2.1 for names, 6.3.1 for attribute references,
-- 6.2.3 for brackets; that a name and what stands behind it by dots is tracked is the typing specification's, in its part on narrowing).
use Rattle.std.specs.Prelude.{ℕ, zero, suc, List, [], ◌∷◌, ◌++◌, Option, None, Some, slice_get}
use Rattle.py_base.specs.declared.ids.NodeId.{NodeId}
use Rattle.py_base.specs.declared.ids.NameId.{NameId}
use Rattle.py_base.specs.declared.node.NodeKind.{NodeKind}
use Rattle.py_base.specs.declared.node.NodeKind.TheVariants as kinds
use Rattle.py_base.specs.Tree.{Arena}
use Rattle.py_scopes.specs.declared.owner.Owner.{Owner}
use Rattle.py_scopes.specs.declared.owner.Owner.TheVariants as owners
use Rattle.py_scopes.specs.Occurrences.{name_of}
use Rattle.py_base.specs.Nodes.{kind_at, parts_at}
use Rattle.node_references.specs.declared.reference.Root.{Root}
use Rattle.node_references.specs.declared.reference.Root.TheVariants as roots
use Rattle.node_references.specs.Reference.{Reference}
use Rattle.node_references.specs.declared.shape.Shape.{Shape}
use Rattle.node_references.specs.declared.shape.Shape.TheVariants as shapes

-- a symbol, or the hidden reference of a `match` statement
abbrev pub bare : Root → Reference
bare root = record { root = root; names = [] }

-- the attribute of a reference
abbrev pub member : Reference → NameId → Reference
member r name = record { root = r.root; names = r.names ++ name ∷ [] }

-- the forms that have to do with references
pub data Sort : Type 0 where
  a_name : Sort
  an_attribute : Sort
  in_brackets : Sort
  a_match : Sort
  another : Sort

abbrev pub sort : NodeKind → Sort
sort kinds.Name = a_name
sort kinds.Attribute = an_attribute
sort kinds.Round = in_brackets
sort kinds.MatchStatement = a_match
sort kind = another

-- what a node is to references: a name, an attribute of its part, brackets around one expression, a `match` statement, or nothing
abbrev pub shaped : Sort → List NodeId → Shape
shaped a_name parts = shapes.Name
shaped an_attribute [] = shapes.Other
shaped an_attribute (p ∷ more) = shapes.Attribute p
shaped in_brackets [] = shapes.Other
shaped in_brackets (p ∷ []) = shapes.Group p
shaped in_brackets (p ∷ q ∷ more) = shapes.Other
shaped a_match parts = shapes.Match
shaped another parts = shapes.Other

abbrev pub shape : NodeKind → List NodeId → Shape
shape kind parts = shaped (sort kind) parts

abbrev pub shape_at : Arena → NodeId → Shape
shape_at a n = shape (kind_at a.nodes n) (parts_at a.nodes n)

-- the symbol of a name, of whichever graph; a name that nobody binds has none
abbrev pub of_owner : Option Owner → Option Reference
of_owner (Some (owners.Local s)) = Some (bare (roots.Symbol s))
of_owner (Some (owners.Outer s)) = Some (bare (roots.Symbol s))
of_owner (Some (owners.Builtin name)) = None
of_owner (Some owners.Undefined) = None
of_owner None = None

abbrev pub of_attribute : Option Reference → Option NameId → Option Reference
of_attribute None name = None
of_attribute (Some r) None = None
of_attribute (Some r) (Some name) = Some (member r name)

-- by the shape of a node, given the references of its parts
abbrev pub by_shape : (NodeId → Option Reference) → Arena → List Owner → NodeId → Shape → Option Reference
by_shape inner a os n shapes.Name = of_owner (slice_get os n.0)
by_shape inner a os n (shapes.Attribute p) = of_attribute (inner p) (name_of a n)
by_shape inner a os n (shapes.Group p) = inner p
by_shape inner a os n shapes.Match = Some (bare (roots.Subject n))
by_shape inner a os n shapes.Other = None

-- down to a depth
abbrev pub within : ℕ → Arena → List Owner → NodeId → Option Reference
within zero a os n = None
within (suc left) a os n = by_shape (within left a os) a os n (shape_at a n)

-- THE REFERENCE THAT A NODE STANDS FOR, if any: the symbol of a name, the chain of an attribute, that of what stands in brackets, and for a
-- `match` statement its hidden reference. Parts are older nodes, so no node stands deeper than its number.
unfoldable pub reference_of : Arena → List Owner → NodeId → Option Reference
reference_of a os n = within (suc n.0) a os n
