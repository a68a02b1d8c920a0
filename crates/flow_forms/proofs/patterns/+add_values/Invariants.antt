use Rattle.std.proofs.Common.{◌≡◌, ◌++◌, ◌-◌, drop}
use Rattle.flow_forms.specs.Patterns.{gather, values}
use Rattle.flow_forms.proofs.patterns.+add_values.Given as goal

abbrev pub decreases-add_values : goal.decreases-add_values
decreases-add_values l = l.left

abbrev pub invariant-loop-part : goal.invariant-loop-part
invariant-loop-part l = l.list ++ gather (values (l.left - 1) l.tree) (drop l.part-index l.part-items) ≡ l.initial.list ++ gather (values (l.left - 1) l.tree) l.part-items
