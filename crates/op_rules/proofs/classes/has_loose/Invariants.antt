use Rattle.std.proofs.Common.{◌≡◌, drop}
use Rattle.std.specs.List.{list_any}
use Rattle.op_rules.specs.Classes.{is_loose}
use Rattle.op_rules.proofs.classes.has_loose.Given as goal

abbrev pub invariant-loop-class : goal.invariant-loop-class
invariant-loop-class l = list_any is_loose (drop l.class-index l.order) ≡ list_any is_loose l.order
