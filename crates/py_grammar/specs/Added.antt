-- How much comes to an arena: at most so many nodes and so many names (the arena is this project's own; nothing in a standard speaks of
-- it).
use Rattle.std.specs.Prelude.{ℕ, ◌+◌, ◌*◌, ◌≤◌, Bool, true, false, length}
use Rattle.py_base.specs.Tree.{Arena}

-- AT MOST SO MANY NODES AND SO MANY NAMES ARE ADDED.
abbrev pub AddsAtMost : ℕ → ℕ → Arena → Arena → Type 0
AddsAtMost nodes names old new = (length new.nodes ≤ length old.nodes + nodes) × (length new.names ≤ length old.names + names)

-- What the reader counts by: each token pays for three nodes and one name. So many had not paid before, so many have not paid yet.
pub record ArePaid (old : Arena) (before : ℕ) (new : Arena) (left : ℕ) : Type 0 where
  pub nodes : length new.nodes + 3 * left ≤ length old.nodes + 3 * before
  pub names : length new.names + left ≤ length old.names + before

-- one where it holds
abbrev pub one_if : Bool → ℕ
one_if true = 1
one_if false = 0

-- none where it holds
abbrev pub unless : Bool → ℕ → ℕ
unless true n = 0
unless false n = n
