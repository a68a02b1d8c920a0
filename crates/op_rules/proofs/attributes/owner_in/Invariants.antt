use Rattle.std.proofs.Common.{◌≡◌, drop}
use Rattle.op_rules.specs.Members.{owner_in}
use Rattle.op_rules.proofs.attributes.owner_in.Given as goal

abbrev pub invariant-loop-class : goal.invariant-loop-class
invariant-loop-class g l = owner_in (g.P.Program.world l.program) (drop l.class-index l.order) l.name ≡ owner_in (g.P.Program.world l.program) l.order l.name
