use Rattle.std.proofs.Common.{◌≡◌, ◌++◌, drop}
use Rattle.flow_forms.specs.Patterns.{gather}
use Rattle.flow_forms.specs.Forms.{pieces}
use Rattle.flow_forms.proofs.functions.add_pieces.Given as goal

abbrev pub invariant-loop-part : goal.invariant-loop-part
invariant-loop-part l = l.list ++ gather (pieces l.tree.nodes) (drop l.part-index l.parts) ≡ l.initial.list ++ gather (pieces l.tree.nodes) l.parts
