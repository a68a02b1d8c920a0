use Rattle.std.proofs.Common.{◌≡◌, true, rules}
use Rattle.narrow_rules.proofs.ListLemmas.{HasOne, one_unless_empty}
use Rattle.narrow_rules.proofs.RowLemmas.{guard_is}
use Rattle.narrow_rules.proofs.written.guard_side.Goals as goal

pub returns-clause-value : goal.returns-clause-value
returns-clause-value c =
    let positive : c.args.positive ≡ true = search rules in
    let some : HasOne c.args.ty.now = one_unless_empty c.args.ty.now (search rules) in
    guard_is c.args.positive c.args.ty.now c.in_ok-copy.field-0 positive some c.in_ok-copy.ensures (c.type_of_is_exact.ensures.same c.args.ty.now c.members.ensures.rises)
