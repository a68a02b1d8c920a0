use Rattle.std.proofs.Common.{◌≡◌, drop, length}
use Rattle.py_scopes.proofs.Passes.{BindingsFrom}
use Rattle.py_scopes.proofs.build.all_bindings.Given as goal

abbrev pub invariant-loop-occurrence : goal.invariant-loop-occurrence
invariant-loop-occurrence l = record {
  rest : BindingsFrom l.instances l.numbers.keys (drop l.occurrence-index l.all) l.bound.items;
  count : length l.bound.items ≡ length l.numbers.keys;
}
