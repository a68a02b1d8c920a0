use Rattle.std.proofs.Common.{◌≡◌, ℕ, length, false, slice_index_or}
use Rattle.node_references.proofs.marks.unmarked.Given as goal

abbrev pub invariant-loop : goal.invariant-loop
invariant-loop l = record {
  long : length l.marks ≡ l.counter;
  none : (j : ℕ) → slice_index_or l.marks j false ≡ false;
}
