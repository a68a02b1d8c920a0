-- The entries of displays, calls, classes and lists of targets or patterns, without the last comma, and what each of them is (Python 3.12
-- language reference, 6.2.4 to 6.2.8 for displays, 6.3.4 for calls, 6.15 for lists without brackets).
use Rattle.std.specs.Prelude.{Bool, true, false, List, [], ◌∷◌, Option, None, Some, drop, take, if◌then◌else◌}
use Rattle.py_base.specs.declared.ids.NodeId.{NodeId}
use Rattle.py_base.specs.declared.node.Node.{Node}
use Rattle.py_base.specs.declared.node.NodeKind.{NodeKind}
use Rattle.py_base.specs.declared.node.NodeKind.TheVariants as kinds
use Rattle.py_base.specs.Nodes.{kind_at, parts_at}
use Rattle.node_shapes.specs.Parts.{without_comma}
use Rattle.node_shapes.specs.declared.entries.Entry.{Entry}
use Rattle.node_shapes.specs.declared.entries.Entry.TheVariants as entries
use Rattle.node_shapes.specs.declared.entries.ComprehensionClause.{ComprehensionClause}
use Rattle.node_shapes.specs.declared.entries.ComprehensionClause.TheVariants as clauses

abbrev pub is_for : NodeKind → Bool
is_for kinds.ComprehensionFor = true
is_for kinds.AsyncComprehensionFor = true
is_for _ = false

-- A COMPREHENSION is an element and then clauses, the first of which is a `for`.
abbrev pub is_comprehension : List Node → List NodeId → Bool
is_comprehension nodes (element ∷ clause ∷ more) = is_for (kind_at nodes clause)
is_comprehension nodes parts = false

-- the parts among which entries stand
abbrev pub listed : NodeKind → List NodeId → List NodeId
listed kinds.Call parts = drop 1 parts
listed kinds.ClassPattern parts = drop 1 parts
listed kinds.Arguments parts = parts
listed kinds.Round parts = parts
listed kinds.Square parts = parts
listed kinds.Curly parts = parts
listed kinds.Entries parts = parts
listed kinds.Targets parts = parts
listed kinds.Patterns parts = parts
listed kinds.MappingPattern parts = parts
listed kinds.OrPattern parts = parts
listed _ parts = []

-- THE ENTRIES of a node, in the order of the text; of a comprehension its element
abbrev pub entries_of : List Node → NodeId → List NodeId
entries_of nodes n =
    let parts = listed (kind_at nodes n) (parts_at nodes n) in
    if is_comprehension nodes parts then take 1 parts else without_comma nodes parts

abbrev pub entry_in : NodeId → NodeKind → List NodeId → Entry
entry_in n kinds.Starred (e ∷ []) = entries.Starred e
entry_in n kinds.DoubleStarred (e ∷ []) = entries.DoubleStarred e
entry_in n kinds.Item (key ∷ value ∷ []) = entries.Pair key value
entry_in n kinds.Keyword (name ∷ value ∷ []) = entries.Keyword name value
entry_in n kinds.Slice parts = entries.Slice
entry_in n _ parts = entries.Plain n

-- WHAT AN ENTRY IS, of a display, a call, a class or an index; an index is one entry, or a display of them
abbrev pub entry : List Node → NodeId → Entry
entry nodes n = entry_in n (kind_at nodes n) (parts_at nodes n)

-- THE CLAUSES of a comprehension, in the order of the text
abbrev pub clauses_of : List Node → NodeId → List NodeId
clauses_of nodes n =
    let parts = listed (kind_at nodes n) (parts_at nodes n) in
    if is_comprehension nodes parts then drop 1 parts else []

abbrev pub clause_in : NodeKind → List NodeId → Option ComprehensionClause
clause_in kinds.ComprehensionFor (targets ∷ iterable ∷ []) = Some (clauses.For targets iterable)
clause_in kinds.AsyncComprehensionFor (targets ∷ iterable ∷ []) = Some (clauses.AsyncFor targets iterable)
clause_in kinds.ComprehensionIf (test ∷ []) = Some (clauses.If test)
clause_in _ parts = None

-- WHAT A CLAUSE IS; nothing for another node
abbrev pub comprehension_clause : List Node → NodeId → Option ComprehensionClause
comprehension_clause nodes n = clause_in (kind_at nodes n) (parts_at nodes n)
