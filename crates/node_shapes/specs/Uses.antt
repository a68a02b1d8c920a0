-- What is done with a name or a target where it stands (Python 3.12 language reference, 4.2.1, "Binding of names"; 8.6.4 for patterns): the
-- use that the first node outward gives it that doesn't hand on its own.
use Rattle.std.specs.Prelude.{◌==◌, Bool, true, false, ◌&&◌, ◌||◌, List, [], ◌∷◌, Option, None, Some, if◌then◌else◌}
use Rattle.py_base.specs.declared.ids.NodeId.{NodeId}
use Rattle.py_base.specs.Tree.{Arena}
use Rattle.node_shapes.specs.declared.outward.Step.{Step}
use Rattle.node_shapes.specs.declared.part_uses.PartUse.{PartUse}
use Rattle.node_shapes.specs.declared.part_uses.PartUse.TheVariants as uses
use Rattle.node_shapes.specs.declared.patterns.Pattern.{Pattern}
use Rattle.node_shapes.specs.declared.patterns.Pattern.TheVariants as patterns
use Rattle.node_shapes.specs.Kinds.{is_case, is_strings}
use Rattle.node_shapes.specs.Outward.{outward}
use Rattle.node_shapes.specs.Patterns.{pattern}
use Rattle.node_shapes.specs.PartUses.{part_use}

abbrev pub use_at : Step → PartUse
use_at s = part_use s.kind s.part s.parts

abbrev pub is_inherited : PartUse → Bool
is_inherited uses.Inherited = true
is_inherited _ = false

-- the steps through nodes that hand on their own use
abbrev pub inheriting : List Step → List Step
inheriting [] = []
inheriting (s ∷ ss) = if is_inherited (use_at s) then s ∷ inheriting ss else []

-- and the way from the node on that decides
abbrev pub deciding : List Step → List Step
deciding [] = []
deciding (s ∷ ss) = if is_inherited (use_at s) then deciding ss else s ∷ ss

abbrev pub use_along : List Step → PartUse
use_along [] = uses.Read
use_along (s ∷ ss) = use_at s

-- the way leads into a pattern
abbrev pub is_pattern : List Step → Bool
is_pattern [] = false
is_pattern (s ∷ ss) = is_case s.kind && s.part == 0

-- within strings that are a pattern: their fields aren't evaluated
abbrev pub in_pattern_string : List Step → Bool
in_pattern_string [] = false
in_pattern_string (s ∷ ss) = (is_strings s.kind && is_pattern (deciding ss)) || in_pattern_string ss

abbrev pub is_wildcard : Pattern → Bool
is_wildcard patterns.Wildcard = true
is_wildcard _ = false

-- THE USE OF A NAME or of a target; none in the strings of a pattern, and none of a `_` there
abbrev pub use_of : Arena → NodeId → Option PartUse
use_of a n =
    let way = outward a.nodes n in
    if in_pattern_string way || (is_pattern (deciding way) && is_wildcard (pattern a n)) then None else Some (use_along (deciding way))
