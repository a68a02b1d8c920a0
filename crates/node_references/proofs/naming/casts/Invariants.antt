use Rattle.std.proofs.Common.{◌≡◌, map}
use Rattle.py_scopes.specs.Occurrences.{first_ids}
use Rattle.node_references.specs.Casts.{names_cast}
use Rattle.node_references.proofs.naming.casts.Given as goal

abbrev pub invariant-loop-place : goal.invariant-loop-place
invariant-loop-place l = l.list ≡ map (names_cast l.tree l.scopes) (first_ids l.place)
