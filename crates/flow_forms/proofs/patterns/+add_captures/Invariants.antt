use Rattle.std.proofs.Common.{◌≡◌, ◌++◌, ◌-◌, drop}
use Rattle.flow_forms.specs.Patterns.{gather, captures}
use Rattle.flow_forms.proofs.patterns.+add_captures.Given as goal

abbrev pub decreases-add_captures : goal.decreases-add_captures
decreases-add_captures l = l.left

abbrev pub invariant-loop-part : goal.invariant-loop-part
invariant-loop-part l = l.list ++ gather (captures (l.left - 1) l.tree) (drop l.part-index l.part-items) ≡ l.initial.list ++ gather (captures (l.left - 1) l.tree) l.part-items
