use Rattle.std.proofs.Common.{◌≡◌, map}
use Rattle.py_scopes.specs.Occurrences.{first_ids}
use Rattle.py_scopes.specs.Tables.{no_items}
use Rattle.py_scopes.proofs.build.no_bindings.Given as goal

abbrev pub invariant-loop : goal.invariant-loop
invariant-loop l = l.lists.items ≡ map no_items (first_ids l.counter)
