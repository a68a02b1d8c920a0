use Rattle.std.proofs.Common.{[], ◌∷◌}
use Rattle.type_terms.proofs.Asking.{asks_one}
use Rattle.type_terms.proofs.text.piece_type.Goals as goal

pub returns-in-OfKey-clause-asked : goal.returns-in-OfKey-clause-asked
returns-in-OfKey-clause-asked g c =
    rw c.in-OfKey.is (asks_one c.get.result (g.V.Types.asked c.args.view.now) (c.in-OfKey.key ∷ []) (g.V.Types.asked c.get.new.self) c.get.ensures.asked c.get.ensures.asked_before)
