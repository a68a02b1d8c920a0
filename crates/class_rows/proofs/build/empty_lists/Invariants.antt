use Rattle.std.proofs.Common.{◌≡◌, length}
use Rattle.class_rows.proofs.build.empty_lists.Given as goal

abbrev pub invariant-loop : goal.invariant-loop
invariant-loop l = length l.lists ≡ l.counter
