-- The items of imports (Python 3.12 language reference, 7.11): what is imported, and the name that is bound.
use Rattle.std.specs.Prelude.{ℕ, true, false, List, [], ◌∷◌, ◌++◌, drop, map, Option, None, Some}
use Rattle.py_base.specs.declared.ids.NameId.{NameId}
use Rattle.py_base.specs.declared.ids.NodeId.{NodeId}
use Rattle.py_base.specs.Tree.{Arena, name_at}
use Rattle.py_base.specs.declared.node.Node.{Node}
use Rattle.py_base.specs.declared.node.NodeKind.{NodeKind}
use Rattle.py_base.specs.declared.node.NodeKind.TheVariants as kinds
use Rattle.py_base.specs.Nodes.{kind_at, parts_at, name_of}
use Rattle.node_shapes.specs.Parts.{without_comma}
use Rattle.node_shapes.specs.declared.imports.ImportItem.{ImportItem}

abbrev pub item_by : NodeId → NodeKind → List NodeId → Option ImportItem
item_by n kinds.Alias (name ∷ other ∷ []) = Some (record { imported = name; bound = other; renamed = true })
item_by n kinds.DottedName (first ∷ more) = Some (record { imported = n; bound = first; renamed = false })
item_by n kinds.Name parts = Some (record { imported = n; bound = n; renamed = false })
item_by n kind parts = None

-- WHAT AN ITEM IS: `import a.b` binds the first name, `as` the name behind it; none of another node
abbrev pub import_item : List Node → NodeId → Option ImportItem
import_item nodes n = item_by n (kind_at nodes n) (parts_at nodes n)

abbrev pub items_by : List Node → NodeKind → List NodeId → List NodeId
items_by nodes kinds.Import parts = parts
items_by nodes kinds.ImportFrom parts = without_comma nodes (drop 1 parts)
items_by nodes kind parts = []

-- THE ITEMS of an import
abbrev pub import_items : List Node → NodeId → List NodeId
import_items nodes n = items_by nodes (kind_at nodes n) (parts_at nodes n)

-- the names of a dotted name, in the order of the text
abbrev pub names_by : NodeId → NodeKind → List NodeId → List NodeId
names_by n kinds.Name parts = n ∷ []
names_by n kinds.DottedName parts = parts
names_by n kind parts = []

abbrev pub dotted_names : List Node → NodeId → List NodeId
dotted_names nodes n = names_by n (kind_at nodes n) (parts_at nodes n)

-- the text of a dotted name, with its dots (46)
abbrev pub text_by : Arena → Option NameId → List ℕ
text_by a None = []
text_by a (Some m) = name_at a.names m.0

abbrev pub joined : List (List ℕ) → List ℕ
joined [] = []
joined (t ∷ []) = t
joined (t ∷ u ∷ more) = t ++ 46 ∷ joined (u ∷ more)

abbrev pub dotted_text : Arena → NodeId → List ℕ
dotted_text a n = joined (map (λ p. text_by a (name_of a.nodes p)) (dotted_names a.nodes n))

abbrev pub origin_by : NodeId → NodeKind → Option NodeId
origin_by n kinds.Name = Some n
origin_by n kinds.DottedName = Some n
origin_by n kind = None

-- THE MODULE that `from` names at its origin, a name or a dotted name; none where dots stand before it
abbrev pub import_origin : List Node → NodeId → Option NodeId
import_origin nodes n = origin_by n (kind_at nodes n)
