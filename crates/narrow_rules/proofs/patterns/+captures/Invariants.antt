use Rattle.std.proofs.Common.{◌≡◌, ◌+◌, ◌*◌, ◌++◌, false, drop}
use Rattle.narrow_rules.specs.Patterns.{gather, captures_within}
use Rattle.narrow_rules.proofs.patterns.+captures.Given as goal

-- a pattern by its form, then each of several in it
abbrev pub decreases-add_by_form : goal.decreases-add_by_form
decreases-add_by_form l = 3 * l.left + 2

abbrev pub decreases-add_each : goal.decreases-add_each
decreases-add_each l = 3 * l.left + 1

abbrev pub decreases-add_captures : goal.decreases-add_captures
decreases-add_captures l = 3 * l.left

-- what is captured so far and what is left to capture are all captures
abbrev pub invariant-add_each-loop-pattern : goal.invariant-add_each-loop-pattern
invariant-add_each-loop-pattern l =
    l.list ++ gather (captures_within l.left l.tree false) (drop l.pattern-index l.patterns) ≡ l.initial.list ++ gather (captures_within l.left l.tree false) l.patterns
