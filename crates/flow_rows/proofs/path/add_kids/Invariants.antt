use Rattle.std.proofs.Common.{◌≡◌, ◌++◌, drop}
use Rattle.flow_rows.specs.Paths.{kids_by}
use Rattle.flow_rows.proofs.path.add_kids.Given as goal

abbrev pub invariant-loop-part : goal.invariant-loop-part
invariant-loop-part l = l.kids ++ kids_by l.copy l.route (drop l.part-index l.parts) ≡ l.initial.kids ++ kids_by l.copy l.route l.parts
