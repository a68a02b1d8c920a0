use Rattle.std.proofs.Common.{◌≡◌, [], take}
use Rattle.std.specs.Prelude.{filter_map, fold}
use Rattle.py_scopes.specs.Members.{hider_at, with_symbol}
use Rattle.py_scopes.proofs.members.hiders.Given as goal

abbrev pub invariant-loop-occurrence : goal.invariant-loop-occurrence
invariant-loop-occurrence l = l.hiders.keys ≡ fold with_symbol [] (filter_map (hider_at l.instances) (take l.occurrence-index l.all))
