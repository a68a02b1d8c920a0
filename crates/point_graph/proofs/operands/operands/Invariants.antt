use Rattle.std.proofs.Common.{◌≡◌, ◌++◌, drop}
use Rattle.point_graph.specs.Operands.{operands_of}
use Rattle.point_graph.proofs.operands.operands.Given as goal

abbrev pub invariant-loop-form : goal.invariant-loop-form
invariant-loop-form l = l.list ++ operands_of (drop l.form-index l.forms) ≡ operands_of l.forms
