use Rattle.std.proofs.Common.{◌∙◌, ap, sym, arith}
use Rattle.cancel_flags.proofs.Steps.{joins}
use Rattle.cancel_flags.specs.Ends.{Raising, Polling}
use Rattle.cancel_flags.proofs.raiser.Raiser.join.Goals as goal

pub join_seat-requires : goal.join_seat-requires
join_seat-requires c =
    let words = c.flags.invariant in (
      ap (λ (r : Raising). r.flags) c.self.view_is ∙ (c.requires.flags ∙ sym c.flags.view_is),
      ap (λ (p : Polling). p.flags) c.watcher.view_is ∙ (c.requires.watcher ∙ sym c.flags.view_is),
      c.watcher.invariant,
      omega (arith, words),
      joins _ _ _ _ c.self.invariant.0,
    )
