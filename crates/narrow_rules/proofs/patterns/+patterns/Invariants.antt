use Rattle.std.proofs.Common.{◌≡◌, ◌+◌, ◌*◌, map, take}
use Rattle.narrow_rules.specs.Patterns.{test_within}
use Rattle.narrow_rules.proofs.patterns.+patterns.Given as goal

-- a pattern by its form, then each of several in it
abbrev pub decreases-form_test : goal.decreases-form_test
decreases-form_test g l = 3 * l.left + 2

abbrev pub decreases-tests_of : goal.decreases-tests_of
decreases-tests_of g l = 3 * l.left + 1

abbrev pub decreases-test_of : goal.decreases-test_of
decreases-test_of g l = 3 * l.left

-- the tests so far
abbrev pub invariant-tests_of-loop-pattern : goal.invariant-tests_of-loop-pattern
invariant-tests_of-loop-pattern g l = l.tests ≡ map (test_within l.left (g.N.Names.names l.names) l.tree) (take l.pattern-index l.patterns)
