use Rattle.std.proofs.Common.{◌≡◌, [], take}
use Rattle.std.specs.Prelude.{filter_map, fold}
use Rattle.py_scopes.specs.Tables.{static_method_at, with_def}
use Rattle.py_scopes.proofs.members.all_statics.Given as goal

abbrev pub invariant-loop-occurrence : goal.invariant-loop-occurrence
invariant-loop-occurrence l = l.statics.keys ≡ fold with_def [] (filter_map (static_method_at l.search) (take l.occurrence-index l.all))
