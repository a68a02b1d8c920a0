use Rattle.std.proofs.Common.{◌≡◌, ◌≤◌, length, map}
use Rattle.std.specs.Prelude.{filter_map}
use Rattle.py_scopes.specs.Occurrences.{occurrence_at, role_at, first_ids}
use Rattle.py_scopes.proofs.occurrence.occurrences.Given as goal

abbrev pub invariant-loop-number : goal.invariant-loop-number
invariant-loop-number l = record {
  all : l.all ≡ filter_map (occurrence_at l.tree) (first_ids l.number);
  roles : l.roles ≡ map (role_at l.tree) (first_ids l.number);
  room : length l.all ≤ l.number;
}
