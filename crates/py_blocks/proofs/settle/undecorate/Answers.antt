use Rattle.std.proofs.Common.{◌≡◌, ◌-◌, take, reverse, sym, ◌∙◌, ap, subst, arith}
use Rattle.py_blocks.specs.Passing.{Aligned}
use Rattle.py_blocks.proofs.Undecorating.{shorter, turned-stop}
use Rattle.py_blocks.proofs.Matching.{aligned-before}
use Rattle.py_blocks.proofs.settle.undecorate.Goals as goal

pub error_line-error-requires : goal.error_line-error-requires
error_line-error-requires c =
    let old = c.args.standing.now.items in
    let items = c.lines.standing.items in
    let i = c.lines.at - 1 in
    let same : take i items ≡ take i old = shorter items old i c.lines.at (omega arith) c.lines.invariant.before in
    let here = ap (take i) c.deref.ensures.value ∙ same in
    subst (λ l. Aligned (reverse l)) (sym here) (aligned-before old i c.requires)

pub returns-then-not-is_decorator-clause-turned : goal.returns-then-not-is_decorator-clause-turned
returns-then-not-is_decorator-clause-turned c =
    turned-stop _ _ _ _ _ c.lines-test.true c.index-line.ensures (sym c.is_decorator.ensures ∙ c.if-not-is_decorator.true) c.lines.invariant
