use Rattle.std.proofs.Common.{◌∙◌, ap, sym, arith}
use Rattle.cancel_flags.proofs.Steps.{polls}
use Rattle.cancel_flags.specs.Ends.{Polling}
use Rattle.cancel_flags.proofs.watcher.Watcher.poll.Goals as goal

pub load-found-requires : goal.load-found-requires
load-found-requires c =
    let words = c.flags.invariant in
    let within = c.args.slot.within in
    (ap (λ (p : Polling). p.flags) c.self.view_is ∙ (c.requires ∙ sym c.flags.view_is), omega (arith, words, within), polls _ _ _ _)
