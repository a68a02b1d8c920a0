-- A tree of the language as it stands in a text: a kind, a span, a word, and parts that are trees; and the tree that a node stands
-- for (Python 3.12 language reference, sections 6 to 8, for the forms; the representation is this project's own).
use Rattle.std.specs.Prelude.{◌≡◌, ℕ, suc, max, ◌<◌, ℤ, List, [], ◌∷◌, ◌++◌, length, slice_index_or, bytes_eq, fold, if◌then◌else◌}
use Rattle.std.specs.List.{list_any, position_or_len}
use Rattle.py_base.specs.declared.ids.NodeId.{NodeId}
use Rattle.py_base.specs.declared.node.NodeKind.{NodeKind}
use Rattle.py_base.specs.declared.node.NodeKind.TheVariants as kinds
use Rattle.py_base.specs.declared.node.Op.{Op}
use Rattle.py_base.specs.declared.node.Word.{Word}
use Rattle.py_base.specs.declared.node.Word.TheVariants as words
use Rattle.py_base.specs.declared.node.Node.{Node}
use Rattle.py_base.specs.declared.span.Span.{Span}

-- what the word of a node says, a name as its text
pub data Said : Type 0 where
  nothing : Said
  name : List ℕ → Said
  int : ℤ → Said
  chars : List ℕ → Said
  bytes : List ℕ → Said
  op : Op → Said

mutual
  pub data SyntaxTree : Type 0 where
    node : NodeKind → Span → Said → SyntaxTrees → SyntaxTree

  pub data SyntaxTrees : Type 0 where
    no_parts : SyntaxTrees
    with_part : SyntaxTree → SyntaxTrees → SyntaxTrees

abbrev pub kind_of : SyntaxTree → NodeKind
kind_of (node k at said ts) = k

abbrev pub span_of : SyntaxTree → Span
span_of (node k at said ts) = at

abbrev pub parts_of : SyntaxTree → SyntaxTrees
parts_of (node k at said ts) = ts

-- a leaf has height 1, any other tree one more than its highest part
abbrev mutual
  pub height : SyntaxTree → ℕ
  height (node k at said ts) = suc (height_of ts)

  pub height_of : SyntaxTrees → ℕ
  height_of no_parts = 0
  height_of (with_part t ts) = max (height t) (height_of ts)

-- what the clauses of `Tree` see: the names by their numbers, and the nodes, each part of a node being an older one
pub record Arena : Type 0 where
  pub names : List (List ℕ)
  pub nodes : List Node

-- the names after one more is wanted: equal names have one number
abbrev pub with_name : List (List ℕ) → List ℕ → List (List ℕ)
with_name names text = if list_any (bytes_eq text) names then names else names ++ text ∷ []

-- the names after each of the texts is wanted in turn
unfoldable pub with_names : List (List ℕ) → List (List ℕ) → List (List ℕ)
with_names names texts = fold with_name names texts

-- the number of a name
abbrev pub number_of_name : List (List ℕ) → List ℕ → ℕ
number_of_name names text = position_or_len (bytes_eq text) names

abbrev pub name_at : List (List ℕ) → ℕ → List ℕ
name_at names id = slice_index_or names id []

abbrev pub said : List (List ℕ) → Word → Said
said names words.Nothing = nothing
said names (words.Name id) = name (name_at names id.0)
said names (words.Int n) = int n
said names (words.Chars list) = chars list
said names (words.Bytes list) = bytes list
said names (words.Op o) = op o

-- what a number stands for that is no node's
abbrev pub no_tree : SyntaxTree
no_tree = node kinds.Fault (record { from = 0; to = 0 }) nothing no_parts

abbrev pub tree_at : List SyntaxTree → NodeId → SyntaxTree
tree_at ts id = slice_index_or ts id.0 no_tree

abbrev pub parts_at : List SyntaxTree → List NodeId → SyntaxTrees
parts_at ts [] = no_parts
parts_at ts (id ∷ ids) = with_part (tree_at ts id) (parts_at ts ids)

-- the tree of a node whose parts are among the trees
abbrev pub node_tree : List (List ℕ) → List SyntaxTree → Node → SyntaxTree
node_tree names ts n = node n.kind n.span (said names n.word) (parts_at ts n.parts)

-- the trees of nodes, each over those before it
abbrev pub trees_from : List (List ℕ) → List SyntaxTree → List Node → List SyntaxTree
trees_from names ts [] = ts
trees_from names ts (n ∷ ns) = trees_from names (ts ++ node_tree names ts n ∷ []) ns

abbrev pub trees : Arena → List SyntaxTree
trees a = trees_from a.names [] a.nodes

-- THE TREE OF A NODE
abbrev pub tree_of : Arena → NodeId → SyntaxTree
tree_of a id = tree_at (trees a) id

-- the numbers are those of the first nodes
abbrev pub AreOlder : ℕ → List NodeId → Type 0
AreOlder n [] = Unit {0}
AreOlder n (id ∷ ids) = (id.0 < n) × AreOlder n ids

-- a name in the word is one of the first names
abbrev pub IsNamed : ℕ → Word → Type 0
IsNamed n (words.Name id) = id.0 < n
IsNamed n w = Unit {0}

-- each node has older parts and a name of the tree
abbrev pub AreLinked : ℕ → ℕ → List Node → Type 0
AreLinked names at [] = Unit {0}
AreLinked names at (n ∷ ns) = AreOlder at n.parts × IsNamed names n.word × AreLinked names (suc at) ns

abbrev pub IsLinked : Arena → Type 0
IsLinked a = AreLinked (length a.names) 0 a.nodes

-- the older nodes and names stay, and more of them come behind
pub record Grows (old new : Arena) : Type 0 where
  pub more_names : List (List ℕ)
  pub names : new.names ≡ old.names ++ more_names
  pub more_nodes : List Node
  pub nodes : new.nodes ≡ old.nodes ++ more_nodes
