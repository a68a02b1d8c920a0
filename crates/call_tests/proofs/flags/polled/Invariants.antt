use Rattle.std.proofs.Common.{◌≡◌}
use Rattle.call_tests.proofs.flags.polled.Given as goal

abbrev pub invariant-loop : goal.invariant-loop
invariant-loop l = l.watcher.flags ≡ l.fn.flags
