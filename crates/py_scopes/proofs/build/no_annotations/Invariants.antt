use Rattle.std.proofs.Common.{◌≡◌, map}
use Rattle.py_scopes.specs.Occurrences.{first_ids}
use Rattle.py_scopes.specs.Tables.{no_annotation}
use Rattle.py_scopes.proofs.build.no_annotations.Given as goal

abbrev pub invariant-loop : goal.invariant-loop
invariant-loop l = l.annotations ≡ map no_annotation (first_ids l.counter)
