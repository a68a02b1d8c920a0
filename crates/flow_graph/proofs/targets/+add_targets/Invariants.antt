use Rattle.std.proofs.Common.{◌≡◌, ◌++◌, ◌-◌, drop}
use Rattle.flow_forms.specs.Patterns.{gather}
use Rattle.flow_graph.specs.Targets.{targets}
use Rattle.flow_graph.proofs.targets.+add_targets.Given as goal

abbrev pub decreases-add_targets : goal.decreases-add_targets
decreases-add_targets l = l.left

abbrev pub invariant-loop-part : goal.invariant-loop-part
invariant-loop-part l = l.list ++ gather (targets (l.left - 1) l.tree.nodes) (drop l.part-index l.part-items) ≡ l.initial.list ++ gather (targets (l.left - 1) l.tree.nodes) l.part-items
