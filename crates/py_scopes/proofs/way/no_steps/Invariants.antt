use Rattle.std.proofs.Common.{◌≡◌, map}
use Rattle.py_scopes.specs.Occurrences.{first_ids}
use Rattle.py_scopes.specs.Tables.{no_step}
use Rattle.py_scopes.proofs.way.no_steps.Given as goal

abbrev pub invariant-loop : goal.invariant-loop
invariant-loop l = l.steps ≡ map no_step (first_ids l.counter)
