use Rattle.std.proofs.Common.{◌≡◌, drop}
use Rattle.std.specs.List.{list_any}
use Rattle.op_rules.specs.Classes.{is_closed}
use Rattle.op_rules.proofs.classes.has_closed.Given as goal

abbrev pub invariant-loop-class : goal.invariant-loop-class
invariant-loop-class l = list_any is_closed (drop l.class-index l.order) ≡ list_any is_closed l.order
