use Rattle.std.proofs.Common.{◌≡◌, drop}
use Rattle.op_rules.specs.Classes.{row_in}
use Rattle.op_rules.proofs.classes.row_in.Given as goal

abbrev pub invariant-loop-class : goal.invariant-loop-class
invariant-loop-class g l = row_in (g.P.Program.world l.program) (drop l.class-index l.order) l.name ≡ row_in (g.P.Program.world l.program) l.order l.name
