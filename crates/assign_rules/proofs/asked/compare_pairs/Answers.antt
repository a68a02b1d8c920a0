use Rattle.std.proofs.Common.{ap}
use Rattle.std.specs.Ordering.{is_eq}
use Rattle.assign_rules.proofs.Same.{slices_same, not_equal}
use Rattle.assign_rules.proofs.asked.compare_pairs.Goals as goal

pub returns-in-Equal : goal.returns-in-Equal
returns-in-Equal c = λ h. (slices_same c.args.low.now c.args.source.now c.cmp.result c.cmp.ensures (ap is_eq c.in-Equal.is), slices_same c.args.high.now c.args.target.now c.cmp-in-Equal.result c.cmp-in-Equal.ensures h)

pub returns-in_default : goal.returns-in_default
returns-in_default c = λ h. absurd (not_equal c.cmp.result c.in_default.not-Equal h)
