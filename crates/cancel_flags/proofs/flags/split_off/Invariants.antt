use Rattle.std.proofs.Common.{◌≡◌, ℕ, replicate, length}
use Rattle.cancel_flags.specs.Ends.{new_polling}
use Rattle.cancel_flags.proofs.flags.split_off.Given as goal

abbrev pub invariant-loop : goal.invariant-loop
invariant-loop l = (l.raiser ≡ l.fn.raiser) × (l.watchers ≡ replicate l.counter (new_polling l.fn.flags))
