-- What a pattern evaluates and what it captures (Python 3.12 language reference, section 8.6.4): dotted names and the names of classes
-- are evaluated, and a name captures, but for `_`.
use Rattle.std.specs.Prelude.{ℕ, zero, suc, Bool, true, false, List, [], ◌∷◌, ◌++◌, Option, None, Some, drop, slice_get, bytes_eq, if◌then◌else◌}
use Rattle.py_base.specs.declared.ids.NodeId.{NodeId}
use Rattle.py_base.specs.declared.node.Node.{Node}
use Rattle.py_base.specs.declared.node.NodeKind.{NodeKind}
use Rattle.py_base.specs.declared.node.NodeKind.TheVariants as kinds
use Rattle.py_base.specs.declared.node.Word.{Word}
use Rattle.py_base.specs.declared.node.Word.TheVariants as words
use Rattle.py_base.specs.Tree.{Arena, name_at}
use Rattle.py_base.specs.Nodes.{kind_at, parts_at}

-- what each part gives, in order
abbrev pub gather : (NodeId → List NodeId) → List NodeId → List NodeId
gather f [] = []
gather f (p ∷ more) = f p ++ gather f more

-- the name `_`
abbrev pub is_underscore : List (List ℕ) → Word → Bool
is_underscore names (words.Name id) = bytes_eq (name_at names id.0) (95 ∷ [])
is_underscore names word = false

abbrev pub is_wildcard_node : List (List ℕ) → Option Node → Bool
is_wildcard_node names None = false
is_wildcard_node names (Some node) = is_underscore names node.word

abbrev pub is_wildcard : Arena → NodeId → Bool
is_wildcard a n = is_wildcard_node a.names (slice_get a.nodes n.0)

-- a name captures
abbrev pub captured : Arena → NodeId → NodeKind → List NodeId
captured a n kinds.Name = if is_wildcard a n then [] else n ∷ []
captured a n kind = []

-- the patterns in a pattern, and the names that it binds beside them
abbrev pub inner : NodeKind → List NodeId → List NodeId
inner kinds.Patterns parts = parts
inner kinds.OrPattern parts = parts
inner kinds.AsPattern parts = parts
inner kinds.StarPattern parts = parts
inner kinds.MappingPattern parts = parts
inner kinds.DoubleStarPattern parts = parts
inner kinds.Round parts = parts
inner kinds.Square parts = parts
inner kinds.PatternItem parts = drop 1 parts
inner kinds.ClassPattern parts = drop 1 parts
inner kinds.KeywordPattern parts = drop 1 parts
inner kind parts = []

-- THE NAMES THAT A PATTERN CAPTURES, in order, down to a depth; the tree of a line is at most 256 high
abbrev pub captures : ℕ → Arena → NodeId → List NodeId
captures zero a n = []
captures (suc left) a n =
    captured a n (kind_at a.nodes n) ++ gather (captures left a) (inner (kind_at a.nodes n) (parts_at a.nodes n))

-- a dotted name is evaluated, and so is the name of a class
abbrev pub evaluated : NodeId → NodeKind → List NodeId → List NodeId
evaluated n kinds.Attribute parts = n ∷ []
evaluated n kinds.ClassPattern (p ∷ more) = p ∷ []
evaluated n kind parts = []

-- the patterns in a pattern, and its keys
abbrev pub inner_values : NodeKind → List NodeId → List NodeId
inner_values kinds.PatternItem parts = parts
inner_values kind parts = inner kind parts

-- THE EXPRESSIONS THAT A PATTERN EVALUATES, in order, down to a depth
abbrev pub values : ℕ → Arena → NodeId → List NodeId
values zero a n = []
values (suc left) a n =
    evaluated n (kind_at a.nodes n) (parts_at a.nodes n) ++ gather (values left a) (inner_values (kind_at a.nodes n) (parts_at a.nodes n))
