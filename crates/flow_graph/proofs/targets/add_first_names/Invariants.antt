use Rattle.std.proofs.Common.{◌≡◌, ◌++◌, drop}
use Rattle.flow_forms.specs.Patterns.{gather}
use Rattle.flow_graph.specs.Targets.{first_name}
use Rattle.flow_graph.proofs.targets.add_first_names.Given as goal

abbrev pub invariant-loop-part : goal.invariant-loop-part
invariant-loop-part l = l.list ++ gather (first_name l.tree.nodes) (drop l.part-index l.parts) ≡ l.initial.list ++ gather (first_name l.tree.nodes) l.parts
