-- The order of the nodes of an arena that is one tree: parts before wholes, else the order of the text. The arena is this project's own;
-- the order of the text is that in which the parts of a node are listed.
use Rattle.std.specs.Prelude.{◌≡◌, ℕ, suc, ◌+◌, ◌-◌, ◌≤◌, List, [], ◌∷◌, ◌++◌, All, Some, length, slice_get}
use Rattle.py_base.specs.declared.ids.NodeId.{NodeId}
use Rattle.py_base.specs.declared.node.Node.{Node}
use Rattle.py_base.specs.declared.span.Span.{Span}
use Rattle.py_base.specs.LanguageNames.{language_names}
use Rattle.py_base.specs.Nodes.{span_at}
use Rattle.py_base.specs.Tree.{Said, name, SyntaxTree, node, SyntaxTrees, no_parts, with_part, Arena, tree_at, trees, tree_of, with_names}

-- how many nodes a tree has
abbrev mutual
  pub size : SyntaxTree → ℕ
  size (node k at said ts) = suc (sizes ts)

  pub sizes : SyntaxTrees → ℕ
  sizes no_parts = 0
  sizes (with_part t ts) = size t + sizes ts

-- the stretches of trees stand side by side from the number `from` up to `to`: each takes as many numbers as its tree has nodes, and its
-- root has the last of them
abbrev pub AreSideBySide : List SyntaxTree → ℕ → ℕ → List NodeId → Type 0
AreSideBySide ts from to [] = from ≡ to
AreSideBySide ts from to (id ∷ ids) = (suc id.0 ≡ from + size (tree_at ts id)) × AreSideBySide ts (suc id.0) to ids

-- the first number of the stretch that ends with the number n
abbrev pub first_of : Arena → ℕ → ℕ
first_of a n = suc n - size (tree_of a (record { 0 = n }))

-- THE NODES ARE NUMBERED IN THE ORDER OF THE TEXT, PARTS BEFORE WHOLES: all of them are the tree of the newest, and the numbers of the
-- nodes of each tree are consecutive, those of its parts side by side and last its own
pub record IsInOrder (a : Arena) (root : NodeId) : Type 0 where
  pub newest : suc root.0 ≡ length a.nodes
  pub whole : size (tree_of a root) ≡ length a.nodes
  pub parts : (n : ℕ) (x : Node) → slice_get a.nodes n ≡ Some x → AreSideBySide (trees a) (first_of a n) n x.parts

-- the names that a tree says, in the order of its nodes
abbrev pub name_in : Said → List (List ℕ)
name_in (name text) = text ∷ []
name_in _ = []

abbrev mutual
  pub names_in : SyntaxTree → List (List ℕ)
  names_in (node k at said ts) = names_among ts ++ name_in said

  pub names_among : SyntaxTrees → List (List ℕ)
  names_among no_parts = []
  names_among (with_part t ts) = names_in t ++ names_among ts

-- THE NAMES ARE NUMBERED: those of the language, then in the order of the text, each where it first stands
abbrev pub AreNamesInOrder : Arena → NodeId → Type 0
AreNamesInOrder a root = a.names ≡ with_names language_names (names_in (tree_of a root))

-- one span lies within another
abbrev pub LiesWithin : Span → Span → Type 0
LiesWithin outer inner = (outer.from ≤ inner.from) × (inner.from ≤ inner.to) × (inner.to ≤ outer.to)

-- EACH NODE LIES WITHIN THE TEXT, of so many characters, AND WITHIN ITS WHOLE
pub record AreSpansNested (a : Arena) (count : ℕ) : Type 0 where
  pub text : (n : ℕ) (x : Node) → slice_get a.nodes n ≡ Some x → LiesWithin (record { from = 0; to = count }) x.span
  pub whole : (n : ℕ) (x : Node) → slice_get a.nodes n ≡ Some x → All (λ part. LiesWithin x.span (span_at a.nodes part)) x.parts
