use Rattle.std.proofs.Common.{◌≡◌, drop}
use Rattle.flow_rows.specs.Paths.{path_end}
use Rattle.flow_rows.proofs.path.end_of_path.Given as goal

abbrev pub invariant-loop-part : goal.invariant-loop-part
invariant-loop-part l = path_end l.ends l.copy l.before (drop l.part-index l.parts) ≡ path_end l.ends l.copy l.fn.from l.parts
