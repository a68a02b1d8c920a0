-- Which nodes name `cast` of typing, whose first argument is an annotation (Python 3.12 language reference, 7.11 for what an import binds,
-- 6.3.1 for attributes, 6.2.3 for brackets; that a call of it takes a type first is the library reference's, in its part on typing).
use Rattle.std.specs.Prelude.{ℕ, Bool, false, ◌&&◌, ◌||◌, Option, Some, None, List, [], ◌∷◌, map, slice_get, bytes_eq, codes, if◌then◌else◌}
use Rattle.std.specs.List.{flat_map}
use Rattle.py_base.specs.declared.ids.NodeId.{NodeId}
use Rattle.py_base.specs.declared.ids.NameId.{NameId}
use Rattle.py_base.specs.declared.node.Node.{Node}
use Rattle.py_base.specs.declared.node.NodeKind.{NodeKind}
use Rattle.py_base.specs.declared.node.NodeKind.TheVariants as kinds
use Rattle.py_base.specs.Tree.{Arena}
use Rattle.py_scopes.specs.Occurrences.{text_of, leaf_name, node_ids}
use Rattle.py_scopes.specs.Table.{ScopeTable}
use Rattle.py_base.specs.Nodes.{kind_at, parts_at}
use Rattle.node_references.specs.declared.reference.Root.{Root}
use Rattle.node_references.specs.declared.reference.Root.TheVariants as roots
use Rattle.node_references.specs.Reference.{Reference}
use Rattle.node_references.specs.References.{reference_of}
use Rattle.node_references.specs.Marks.{is_among}
use Rattle.node_references.specs.declared.imports.Imported.{Imported}
use Rattle.node_references.specs.declared.imports.Imported.TheVariants as imports
use Rattle.node_references.specs.declared.imports.Item.{Item}

-- the words of what is imported: two modules have `cast`
abbrev pub is_spelled : Imported → List ℕ → Bool
is_spelled imports.Typing text = bytes_eq text (codes "typing") || bytes_eq text (codes "typing_extensions")
is_spelled imports.Cast text = bytes_eq text (codes "cast")

abbrev pub is_named : Imported → List (List ℕ) → Option NameId → Bool
is_named imported names None = false
is_named imported names (Some name) = is_spelled imported (text_of names name)

-- the node is that name alone; a dotted name is another
abbrev pub is_name_of : Imported → Arena → NodeId → Bool
is_name_of imported a n = is_named imported a.names (leaf_name (slice_get a.nodes n.0))

-- the items of a statement that can import it: those of an `import`, or those from one of the two modules
abbrev pub items : Imported → Arena → NodeKind → List NodeId → List NodeId
items imports.Typing a kinds.Import parts = parts
items imports.Cast a kinds.ImportFrom (source ∷ names) = if is_name_of imports.Typing a source then names else []
items imported a kind parts = []

-- `name as other` imports the name and binds the other; any other item does both with itself
abbrev pub item : NodeId → NodeKind → List NodeId → Item
item n kinds.Alias (name ∷ other ∷ []) = record { imported = name; bound = other }
item n kind parts = record { imported = n; bound = n }

abbrev pub bound_if : Imported → Arena → Item → List NodeId
bound_if imported a i = if is_name_of imported a i.imported then i.bound ∷ [] else []

abbrev pub bound_by_item : Imported → Arena → NodeId → List NodeId
bound_by_item imported a n = bound_if imported a (item n (kind_at a.nodes n) (parts_at a.nodes n))

-- what a node binds to it
abbrev pub bound_by : Imported → Arena → Node → List NodeId
bound_by imported a node = flat_map (bound_by_item imported a) (items imported a node.kind node.parts)

-- ALL NODES THAT AN IMPORT BINDS to it
abbrev pub imported_nodes : Imported → Arena → List NodeId
imported_nodes imported a = flat_map (bound_by imported a) a.nodes

-- the only binding of a symbol is one of these
abbrev pub is_only_of : List NodeId → Option (List NodeId) → Bool
is_only_of nodes (Some (b ∷ [])) = is_among nodes b
is_only_of nodes bindings = false

abbrev pub is_root_of : List NodeId → ScopeTable → Root → Bool
is_root_of nodes t (roots.Symbol s) = is_only_of nodes (slice_get t.bound s.0)
is_root_of nodes t (roots.Subject n) = false

-- by the names behind it: an import of `cast` has none, one of a module has the one name `cast`
abbrev pub is_cast_chain : Arena → ScopeTable → Root → List NameId → Bool
is_cast_chain a t root [] = is_root_of (imported_nodes imports.Cast a) t root
is_cast_chain a t root (name ∷ []) = is_spelled imports.Cast (text_of a.names name) && is_root_of (imported_nodes imports.Typing a) t root
is_cast_chain a t root (name ∷ next ∷ more) = false

abbrev pub is_cast : Arena → ScopeTable → Option Reference → Bool
is_cast a t None = false
is_cast a t (Some r) = is_cast_chain a t r.root r.names

-- THE NODE NAMES `cast` OF TYPING: its reference is a symbol whose only binding imports `cast`, or the attribute `cast` of a symbol whose
-- only binding imports a module that has it
unfoldable pub names_cast : Arena → ScopeTable → NodeId → Bool
names_cast a t n = is_cast a t (reference_of a t.owners n)

-- whether each node of the tree does, by their numbers
abbrev pub casts_of : Arena → ScopeTable → List Bool
casts_of a t = map (names_cast a t) (node_ids a)
