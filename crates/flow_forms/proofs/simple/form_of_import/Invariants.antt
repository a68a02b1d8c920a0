use Rattle.std.proofs.Common.{◌≡◌, ◌++◌, drop}
use Rattle.flow_forms.specs.Patterns.{gather}
use Rattle.flow_forms.specs.Forms.{imported}
use Rattle.flow_forms.proofs.simple.form_of_import.Given as goal

abbrev pub invariant-loop-part : goal.invariant-loop-part
invariant-loop-part l = l.steps ++ gather (imported l.tree.nodes) (drop l.part-index l.parts) ≡ gather (imported l.tree.nodes) l.parts
