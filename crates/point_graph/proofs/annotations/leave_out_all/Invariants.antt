use Rattle.std.proofs.Common.{◌≡◌, ◌++◌, map, take, drop}
use Rattle.point_graph.specs.Annotations.{without_annotation}
use Rattle.point_graph.proofs.annotations.leave_out_all.Given as goal

abbrev pub invariant-loop-form : goal.invariant-loop-form
invariant-loop-form l = l.forms ≡ map (without_annotation l.tree.nodes l.casts) (take l.form-index l.initial.forms) ++ drop l.form-index l.initial.forms
