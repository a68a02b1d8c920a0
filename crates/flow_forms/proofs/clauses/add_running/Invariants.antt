use Rattle.std.proofs.Common.{◌≡◌, ◌++◌, drop}
use Rattle.flow_forms.specs.Clauses.{running}
use Rattle.flow_forms.proofs.clauses.add_running.Given as goal

abbrev pub invariant-loop-part : goal.invariant-loop-part
invariant-loop-part l = l.list ++ running l.tree.nodes (drop l.part-index l.parts) ≡ l.initial.list ++ running l.tree.nodes l.parts
