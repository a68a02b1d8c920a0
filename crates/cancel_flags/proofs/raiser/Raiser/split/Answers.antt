use Rattle.std.proofs.Common.{◌∙◌, ap, sym, arith}
use Rattle.cancel_flags.proofs.Steps.{splits}
use Rattle.cancel_flags.specs.Ends.{Raising}
use Rattle.cancel_flags.proofs.raiser.Raiser.split.Goals as goal

pub split_seat-seat-requires : goal.split_seat-seat-requires
split_seat-seat-requires c =
    let words = c.flags.invariant in
    (ap (λ (r : Raising). r.flags) c.self.view_is ∙ (c.requires ∙ sym c.flags.view_is), omega (arith, words), splits _ _ c.self.invariant.0)
