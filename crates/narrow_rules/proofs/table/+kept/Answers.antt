use Rattle.std.proofs.Common.{true, false, sym, ap, subst, ◌∙◌, rules}
use Rattle.type_terms.specs.declared.narrowing.Test.TheVariants as test
use Rattle.narrow_rules.specs.Keep.{IsOthers, both, kept}
use Rattle.narrow_rules.proofs.ListLemmas.{on_err}
use Rattle.narrow_rules.proofs.KeptLemmas.{any_failed, all_failed, both-others, either_side}
use Rattle.narrow_rules.proofs.TestSize.{size, sizes, size_item, size_swapped, size_either}
use Rattle.narrow_rules.proofs.table.+kept.Goals as goal

pub all_false-false_of-requires : goal.all_false-false_of-requires
all_false-false_of-requires g t c =
    let smaller = size_item c.args.tests.now c.loop-test.test-index c.test-item.result c.loop-test-test.true c.test-item.is in
    search rules

pub any_true-kept-requires : goal.any_true-kept-requires
any_true-kept-requires g t c =
    let smaller = size_item c.args.tests.now c.loop-test.test-index c.test-item.result c.loop-test-test.true c.test-item.is in
    search rules

pub by_table-kept-requires : goal.by_table-kept-requires
by_table-kept-requires g t c =
    let smaller = ap size c.in-Swapped.is ∙ size_swapped _ in
    let same = ap size c.get.ensures in
    search rules

pub by_table-any_true-requires : goal.by_table-any_true-requires
by_table-any_true-requires g t c =
    let smaller = ap size c.in-Either.is ∙ size_either _ in
    let same = ap sizes c.as_slice-then-positive-3.ensures in
    search rules

pub by_table-all_false-requires : goal.by_table-all_false-requires
by_table-all_false-requires g t c =
    let smaller = ap size c.in-Either.is ∙ size_either _ in
    let same = ap sizes c.as_slice-else-positive-3.ensures in
    search rules

pub by_table-returns-then-positive-3-clause-value : goal.by_table-returns-then-positive-3-clause-value
by_table-returns-then-positive-3-clause-value g t c =
    either_side c.args.classes.now (g.F.Names.names c.args.facts.now) c.args.test.now c.as_slice-then-positive-3.result.now c.args.positive true c.args.atom.now c.any_true.result
    (c.in-Either.is ∙ ap test.Either (sym c.as_slice-then-positive-3.ensures)) c.if-positive-3.true c.any_true.ensures.value

pub by_table-returns-else-positive-3-clause-value : goal.by_table-returns-else-positive-3-clause-value
by_table-returns-else-positive-3-clause-value g t c =
    either_side c.args.classes.now (g.F.Names.names c.args.facts.now) c.args.test.now c.as_slice-else-positive-3.result.now c.args.positive false c.args.atom.now c.all_false.result
    (c.in-Either.is ∙ ap test.Either (sym c.as_slice-else-positive-3.ensures)) c.if-positive-3.false c.all_false.ensures.value

pub all_false-returns-in_err-left-clause-free : goal.all_false-returns-in_err-left-clause-free
all_false-returns-in_err-left-clause-free g t c =
    on_err _ (all_failed (kept c.args.classes.now (g.F.Names.names c.args.facts.now)) c.args.tests.now c.loop-test.test-index c.test-item.result c.args.atom.now c.loop-test.left _ c.loop-test-test.true c.test-item.is c.loop-test.invariant
    c.in_err-left.ensures.free)

pub any_true-returns-in_err-more-clause-free : goal.any_true-returns-in_err-more-clause-free
any_true-returns-in_err-more-clause-free g t c =
    let x = c.test-item.result in let a = c.args.atom.now in
    on_err _ (any_failed (kept c.args.classes.now (g.F.Names.names c.args.facts.now)) c.args.tests.now c.loop-test.test-index x a c.loop-test.so_far _ c.loop-test-test.true c.test-item.is c.loop-test.invariant
    (both-others a c.loop-test.so_far (kept c.args.classes.now (g.F.Names.names c.args.facts.now) x true a) c.in_err-more.ensures.free))

pub any_true-returns-in_err-so_far-clause-free : goal.any_true-returns-in_err-so_far-clause-free
any_true-returns-in_err-so_far-clause-free g t c =
    let x = c.test-item.result in let a = c.args.atom.now in
    on_err _ (any_failed (kept c.args.classes.now (g.F.Names.names c.args.facts.now)) c.args.tests.now c.loop-test.test-index x a c.loop-test.so_far _ c.loop-test-test.true c.test-item.is c.loop-test.invariant
    (subst (λ more. IsOthers (both a c.loop-test.so_far more)) c.in_ok-more.ensures.value c.in_err-so_far.ensures.free))
