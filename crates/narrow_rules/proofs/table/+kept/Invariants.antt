use Rattle.std.proofs.Common.{◌≡◌, ◌+◌, ◌*◌, drop, map, take}
use Rattle.std.specs.List.{flat_map}
use Rattle.narrow_rules.specs.declared.sides.Kept.TheVariants.{Itself, Nothing}
use Rattle.narrow_rules.specs.Keep.{members, any_true, all_false, kept, by_table}
use Rattle.narrow_rules.proofs.TestSize.{size, sizes}
use Rattle.narrow_rules.proofs.table.+kept.Given as goal

-- the parts of a test, each of them with what is left so far, then the test whole, on an instance, on its set and by its row
abbrev pub decreases-any_true : goal.decreases-any_true
decreases-any_true g l = 8 * sizes l.tests.now + 7

abbrev pub decreases-all_false : goal.decreases-all_false
decreases-all_false g l = 8 * sizes l.tests.now + 7

abbrev pub decreases-false_of : goal.decreases-false_of
decreases-false_of g l = 8 * size l.test.now + 5

abbrev pub decreases-of_each : goal.decreases-of_each
decreases-of_each g l = 8 * size l.test.now + 4

abbrev pub decreases-kept : goal.decreases-kept
decreases-kept g l = 8 * size l.test.now + 3

abbrev pub decreases-of_instance : goal.decreases-of_instance
decreases-of_instance g l = 8 * size l.test.now + 2

abbrev pub decreases-of_set : goal.decreases-of_set
decreases-of_set g l = 8 * size l.test.now + 1

abbrev pub decreases-by_table : goal.decreases-by_table
decreases-by_table g l = 8 * size l.test.now

-- the tests that are left make of what is left so far what all of them make
abbrev pub invariant-any_true-loop-test : goal.invariant-any_true-loop-test
invariant-any_true-loop-test g l =
    any_true (map (kept l.classes (g.F.Names.names l.facts)) (drop l.test-index l.tests)) l.atom l.so_far ≡ any_true (map (kept l.classes (g.F.Names.names l.facts)) l.tests) l.atom Nothing

abbrev pub invariant-all_false-loop-test : goal.invariant-all_false-loop-test
invariant-all_false-loop-test g l =
    all_false (map (kept l.classes (g.F.Names.names l.facts)) (drop l.test-index l.tests)) l.atom l.left ≡ all_false (map (kept l.classes (g.F.Names.names l.facts)) l.tests) l.atom Itself

-- what is left of the members so far
abbrev pub invariant-of_each-loop-other : goal.invariant-of_each-loop-other
invariant-of_each-loop-other g l =
    l.atoms.items ≡ flat_map (λ b. members (kept l.classes (g.F.Names.names l.facts) l.test l.positive b) b) (take l.other-index l.others)

abbrev pub invariant-of_set-loop-literal : goal.invariant-of_set-loop-literal
invariant-of_set-loop-literal g l =
    l.atoms.items ≡ flat_map (λ b. members (by_table l.classes (g.F.Names.names l.facts) l.test l.positive b) b) (take l.literal-index l.literals)
