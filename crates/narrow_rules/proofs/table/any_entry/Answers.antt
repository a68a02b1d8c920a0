use Rattle.std.proofs.Common.{true, subst}
use Rattle.narrow_rules.specs.Keep.{IsOthers, both, entry_keeps}
use Rattle.narrow_rules.proofs.ListLemmas.{on_err}
use Rattle.narrow_rules.proofs.KeptLemmas.{any_failed, both-others}
use Rattle.narrow_rules.proofs.table.any_entry.Goals as goal

pub returns-in_err-more-clause-free : goal.returns-in_err-more-clause-free
returns-in_err-more-clause-free c =
    let x = c.entry-item.result in let a = c.args.atom.now in
    on_err _ (any_failed entry_keeps c.args.entries.now c.loop-entry.entry-index x a c.loop-entry.kept _ c.loop-entry-test.true c.entry-item.is c.loop-entry.invariant
    (both-others a c.loop-entry.kept (entry_keeps x true a) c.in_err-more.ensures.free))

pub returns-in_err-kept-clause-free : goal.returns-in_err-kept-clause-free
returns-in_err-kept-clause-free c =
    let x = c.entry-item.result in let a = c.args.atom.now in
    on_err _ (any_failed entry_keeps c.args.entries.now c.loop-entry.entry-index x a c.loop-entry.kept _ c.loop-entry-test.true c.entry-item.is c.loop-entry.invariant
    (subst (λ more. IsOthers (both a c.loop-entry.kept more)) c.in_ok-more.ensures.value c.in_err-kept.ensures.free))
