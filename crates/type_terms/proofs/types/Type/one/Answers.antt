use Rattle.std.proofs.Common.{◌≡◌, [], ◌∷◌, rules}
use Rattle.type_terms.proofs.TypeLaws.{IsType-one}
use Rattle.type_terms.proofs.types.Type.one.Goals as goal

pub invariant_of-result : goal.invariant_of-result
invariant_of-result c =
    let is : c.push.new.self ≡ c.args.atom ∷ [] = search rules in
    rw is (IsType-one c.args.atom)
