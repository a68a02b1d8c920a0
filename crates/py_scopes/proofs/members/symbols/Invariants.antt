use Rattle.std.proofs.Common.{◌≡◌, ◌≤◌, [], length, take}
use Rattle.std.specs.Prelude.{filter_map, fold}
use Rattle.py_scopes.specs.Members.{bound_symbol, with_symbol}
use Rattle.py_scopes.proofs.members.symbols.Given as goal

abbrev pub invariant-loop-occurrence : goal.invariant-loop-occurrence
invariant-loop-occurrence l = record {
  after : l.numbers.keys ≡ fold with_symbol [] (filter_map (bound_symbol l.instances) (take l.occurrence-index l.all));
  room : length l.numbers.keys ≤ l.occurrence-index;
}
