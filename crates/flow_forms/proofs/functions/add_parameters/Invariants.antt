use Rattle.std.proofs.Common.{◌≡◌, ◌++◌, drop}
use Rattle.flow_forms.specs.Patterns.{gather}
use Rattle.flow_forms.specs.Forms.{parameters}
use Rattle.flow_forms.proofs.functions.add_parameters.Given as goal

abbrev pub invariant-loop-part : goal.invariant-loop-part
invariant-loop-part l = l.list ++ gather (parameters l.tree.nodes) (drop l.part-index l.parts) ≡ l.initial.list ++ gather (parameters l.tree.nodes) l.parts
