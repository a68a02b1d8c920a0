use Rattle.std.proofs.Common.{◌≡◌, ◌≤◌, map}
use Rattle.py_scopes.specs.Occurrences.{first_ids}
use Rattle.py_scopes.specs.Table.{owner_at}
use Rattle.py_scopes.proofs.Nodes.{passed}
use Rattle.py_scopes.proofs.build.owners.Given as goal

abbrev pub invariant-loop-number : goal.invariant-loop-number
invariant-loop-number l = record {
  owners : l.owners ≡ map (owner_at l.tree l.instances l.numbers.keys) (first_ids l.number);
  passed : l.passed ≡ passed l.tree l.number;
  room : l.passed ≤ l.number;
}
