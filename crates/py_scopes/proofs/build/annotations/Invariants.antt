use Rattle.std.proofs.Common.{◌≡◌, drop, length}
use Rattle.py_scopes.proofs.Passes.{AnnotationsFrom}
use Rattle.py_scopes.proofs.build.annotations.Given as goal

abbrev pub invariant-loop-occurrence : goal.invariant-loop-occurrence
invariant-loop-occurrence l = record {
  rest : AnnotationsFrom l.instances l.numbers.keys (drop l.occurrence-index l.all) l.earliest;
  count : length l.earliest ≡ length l.numbers.keys;
}
