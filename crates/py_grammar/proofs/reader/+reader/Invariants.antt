use Rattle.std.proofs.Common.{◌+◌, ◌-◌, ◌*◌, ◌≤◌, length, [], ◌∷◌}
use Rattle.py_grammar.specs.Parse.{read_parts, read}
use Rattle.py_grammar.specs.Found.{pieces_at, item_words, item_ids, Keeps, IsNewest}
use Rattle.py_grammar.specs.Added.{ArePaid}
use Rattle.py_grammar.proofs.Partway.{IsPartway, IsClimbing}
use Rattle.py_grammar.proofs.reader.+reader.Given as goal

abbrev pub decreases-begin_from : goal.decreases-begin_from
decreases-begin_from l = 3 * l.depth + 2

abbrev pub decreases-parts_from : goal.decreases-parts_from
decreases-parts_from l = 3 * l.depth + 1

abbrev pub decreases-tree_from : goal.decreases-tree_from
decreases-tree_from l = 3 * l.depth

abbrev pub invariant-parts_from-parts : goal.invariant-parts_from-parts
invariant-parts_from-parts l = IsPartway l.depth (read_parts l.depth l.fn.state l.tokens) (pieces_at l.fn.tree l.fn.first) l.fn.tree l.tree l.items l.state l.rest × Keeps l.fn.tree (item_ids l.fn.first) l.tree (item_ids l.items) × (length (item_words l.fn.first) ≤ length (item_words l.items)) × ArePaid l.fn.tree (length (item_words l.fn.first) + length l.tokens) l.tree (length (item_words l.items) + length l.rest)

abbrev pub decreases-parts_from-parts : goal.decreases-parts_from-parts
decreases-parts_from-parts l = length l.rest

abbrev pub invariant-tree_from-joints : goal.invariant-tree_from-joints
invariant-tree_from-joints l = IsClimbing (l.depth - 1) l.need (read l.depth l.need l.tokens) l.fn.tree l.tree l.found l.rest × Keeps l.fn.tree [] l.tree (l.found.id ∷ []) × IsNewest l.fn.tree l.tree l.found.id × ArePaid l.fn.tree (length l.tokens) l.tree (length l.rest)

abbrev pub decreases-tree_from-joints : goal.decreases-tree_from-joints
decreases-tree_from-joints l = length l.rest
