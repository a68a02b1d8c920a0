use Rattle.std.proofs.Common.{◌≡◌, drop}
use Rattle.op_rules.specs.Members.{seen_in}
use Rattle.op_rules.proofs.SeenLemmas.{seen_from}
use Rattle.op_rules.proofs.members.seen_in.Given as goal

-- those that joined so far, and what is left of the order
abbrev pub invariant-loop-class : goal.invariant-loop-class
invariant-loop-class g l = seen_from (g.P.Program.world l.program) l.symbols (drop l.class-index l.order) l.name ≡ seen_in (g.P.Program.world l.program) l.order l.name
