-- An arena that is one tree: each node but the newest is a part of just one node, once, so that a node and the place where it stands
-- in the tree determine each other (the arena is this project's own; nothing in a standard speaks of it).
use Rattle.std.specs.Prelude.{◌≡◌, ℕ, suc, ◌==◌, ◌<◌, ◌≤◌, List, [], ◌∷◌, ◌++◌, length, if◌then◌else◌}
use Rattle.py_base.specs.declared.ids.NodeId.{NodeId}
use Rattle.py_base.specs.declared.node.Node.{Node}
use Rattle.py_base.specs.Tree.{Arena}

-- how often a number is among the ids
abbrev pub times : ℕ → List NodeId → ℕ
times n [] = 0
times n (id ∷ ids) = if id.0 == n then suc (times n ids) else times n ids

-- the parts of all nodes
abbrev pub all_parts : List Node → List NodeId
all_parts [] = []
all_parts (n ∷ ns) = n.parts ++ all_parts ns

-- ALL NODES ARE ONE TREE, whose root is the newest.
pub record IsOneTree (a : Arena) : Type 0 where
  pub rooted : 0 < length a.nodes
  pub once : (n : ℕ) → suc n < length a.nodes → times n (all_parts a.nodes) ≡ 1

-- THE NODES THAT WERE ADDED ARE ONE TREE, whose root is the newest, and none of the older nodes is a part of it.
pub record AddsOneTree (old new : Arena) (root : NodeId) : Type 0 where
  pub newest : suc root.0 ≡ length new.nodes
  pub added : length old.nodes < length new.nodes
  pub once : (n : ℕ) → length old.nodes ≤ n → suc n < length new.nodes → times n (all_parts new.nodes) ≡ 1
  pub apart : (n : ℕ) → n < length old.nodes → times n (all_parts new.nodes) ≡ times n (all_parts old.nodes)
