use Rattle.std.proofs.Common.{◌≡◌, ◌++◌, drop}
use Rattle.flow_graph.specs.Targets.{captured_of}
use Rattle.flow_graph.proofs.targets.add_all_captured.Given as goal

abbrev pub invariant-loop-form : goal.invariant-loop-form
invariant-loop-form l = l.list ++ captured_of (drop l.form-index l.forms) ≡ l.initial.list ++ captured_of l.forms
