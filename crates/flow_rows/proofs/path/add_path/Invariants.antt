use Rattle.std.proofs.Common.{◌≡◌, ◌++◌, drop}
use Rattle.flow_rows.specs.Paths.{path, path_end}
use Rattle.flow_rows.proofs.path.add_path.Given as goal

abbrev pub invariant-loop-part : goal.invariant-loop-part
invariant-loop-part l = record {
  arrows : l.arrows ++ path l.ends l.copy l.before l.how (drop l.part-index l.parts) ≡ l.initial.arrows ++ path l.ends l.copy l.fn.from l.fn.kind l.parts;
  end : path_end l.ends l.copy l.before (drop l.part-index l.parts) ≡ path_end l.ends l.copy l.fn.from l.parts;
}
