use Rattle.std.proofs.Common.{◌≡◌, ◌++◌, drop}
use Rattle.flow_rows.proofs.emit.add_all.Given as goal

abbrev pub invariant-loop-arrow : goal.invariant-loop-arrow
invariant-loop-arrow l = l.edges ++ drop l.arrow-index l.arrows ≡ l.initial.edges ++ l.arrows
