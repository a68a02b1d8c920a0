use Rattle.std.proofs.Common.{sym, ◌∙◌, ap, ◌+◌, ◌*◌}
use Rattle.py_tokens.specs.Ints.{below_limit}
use Rattle.py_tokens.proofs.Digits.{too_wide, in_limit}
use Rattle.py_tokens.proofs.ints.digits_number.Goals as goal

pub returns-in-None : goal.returns-in-None
returns-in-None c =
    too_wide c.args.base c.loop-digit.value c.args.digits.now c.loop-digit.digit-index c.requires c.loop-digit.invariant.same c.loop-digit-test.true c.if-digit-ne95.true
    (sym c.in-None.is ∙ c.push_digit.ensures ∙ ap (λ d. below_limit (c.loop-digit.value * c.args.base + d)) c.digit_of.ensures)

pub returns : goal.returns
returns c =
    in_limit c.args.base c.loop-digit.value c.args.digits.now c.loop-digit.digit-index c.loop-digit.invariant.below c.loop-digit-test.false c.loop-digit.invariant.same
