use Rattle.op_rules.specs.Slots.{entries}
use Rattle.op_rules.specs.Steps.{IsValue}
use Rattle.op_rules.proofs.slots.entries.Given as goal

abbrev pub invariant-loop-place : goal.invariant-loop-place
invariant-loop-place g l = IsValue (g.P.Program.world l.program) l.parts (entries (g.P.Program.world l.program) l.atom l.place)
