use Rattle.std.proofs.Common.{◌≡◌, ◌++◌, ◌-◌, length}
use Rattle.py_scopes.specs.Way.{way_out, steps}
use Rattle.py_scopes.proofs.way.way_out.Given as goal

abbrev pub invariant-loop-taken : goal.invariant-loop-taken
invariant-loop-taken l = l.way ++ steps (length l.tree.nodes - l.taken) l.tree.nodes l.at ≡ way_out l.tree.nodes l.fn.id
