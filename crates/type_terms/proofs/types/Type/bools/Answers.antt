use Rattle.std.proofs.Common.{◌≡◌, rules}
use Rattle.type_terms.specs.Types.{both_bools}
use Rattle.type_terms.proofs.TypeLaws.{IsType-bools}
use Rattle.type_terms.proofs.types.Type.bools.Goals as goal

pub invariant_of-result : goal.invariant_of-result
invariant_of-result c =
    let is : c.push-2.new.self ≡ both_bools = search rules in
    rw is IsType-bools
