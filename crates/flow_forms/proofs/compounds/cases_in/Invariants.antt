use Rattle.std.proofs.Common.{◌≡◌, ◌++◌, drop}
use Rattle.flow_forms.specs.Forms.{cases_among}
use Rattle.flow_forms.proofs.compounds.cases_in.Given as goal

abbrev pub invariant-loop-part : goal.invariant-loop-part
invariant-loop-part l = l.cases ++ cases_among l.tree.nodes (drop l.part-index l.parts) ≡ cases_among l.tree.nodes l.parts
