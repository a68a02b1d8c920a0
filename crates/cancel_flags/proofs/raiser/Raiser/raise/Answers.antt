use Rattle.std.proofs.Common.{◌∙◌, ap, sym, arith}
use Rattle.cancel_flags.proofs.Steps.{raises}
use Rattle.cancel_flags.specs.Ends.{Raising}
use Rattle.cancel_flags.proofs.raiser.Raiser.raise.Goals as goal

pub store-requires : goal.store-requires
store-requires c =
    let words = c.flags.invariant in
    let within = c.args.slot.within in
    (ap (λ (r : Raising). r.flags) c.self.view_is ∙ (c.requires.flags ∙ sym c.flags.view_is), omega (arith, words, within), raises _ _ _ _ _ c.self.invariant.0 c.args.slot.within)
