use Rattle.std.proofs.Common.{◌≡◌, ◌++◌, drop}
use Rattle.flow_forms.specs.Forms.{comprehension_clauses_of}
use Rattle.flow_forms.proofs.displays.clauses_in.Given as goal

abbrev pub invariant-loop-part : goal.invariant-loop-part
invariant-loop-part l = l.clauses ++ comprehension_clauses_of l.tree.nodes (drop l.part-index l.parts) ≡ comprehension_clauses_of l.tree.nodes l.parts
