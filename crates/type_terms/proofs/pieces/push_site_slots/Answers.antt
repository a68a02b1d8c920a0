use Rattle.std.proofs.Common.{◌≡◌, ◌++◌, ◌∷◌, [], eqb, refl, rules}
use Rattle.py_base.specs.declared.key.Key.TheVariants.{Elem}
use Rattle.type_terms.specs.declared.piece.Piece.TheVariants.{Word, OfKey}
use Rattle.type_terms.specs.Pieces.{comma}
use Rattle.type_terms.proofs.PieceLemmas.{site_more}
use Rattle.type_terms.proofs.pieces.push_site_slots.Goals as goal

pub loop-place-preserved : goal.loop-place-preserved
loop-place-preserved c =
    let at = c.loop-place.place in
    let one : c.push_word.new.pieces ≡ c.loop-place.pieces ++ Word (comma (eqb at 0)) ∷ [] = search rules in
    let two : c.push.new.pieces ≡ c.push_word.new.pieces ++ OfKey (Elem c.args.site at) ∷ [] = search rules in
    site_more c.loop-place.pieces c.push.new.pieces _ c.args.site at c.args.count c.loop-place-test.true c.loop-place.invariant (rw (two, one) refl)
