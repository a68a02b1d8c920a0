use Rattle.std.proofs.Common.{◌≡◌, ◌++◌, drop}
use Rattle.flow_rows.specs.Around.{targets}
use Rattle.flow_rows.specs.Edges.{left}
use Rattle.flow_rows.proofs.emit.leave_all.Given as goal

abbrev pub invariant-loop-exit : goal.invariant-loop-exit
invariant-loop-exit l = l.edges ++ left (targets l.frame) (drop l.exit-index l.exits) ≡ l.initial.edges ++ left (targets l.frame) l.exits
