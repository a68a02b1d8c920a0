use Rattle.std.proofs.Common.{◌≡◌, map, take}
use Rattle.py_base.specs.Builtins.{id_of}
use Rattle.class_rows.proofs.build.ids.Given as goal

abbrev pub invariant-loop-builtin : goal.invariant-loop-builtin
invariant-loop-builtin l = l.classes ≡ map id_of (take l.builtin-index l.builtins)
