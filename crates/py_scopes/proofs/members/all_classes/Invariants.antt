use Rattle.std.proofs.Common.{◌≡◌, drop}
use Rattle.std.specs.Prelude.{filter_map, slice_get}
use Rattle.indexmap.specs.IndexMap.{get}
use Rattle.py_scopes.specs.declared.scope.Symbol.{Symbol}
use Rattle.py_scopes.specs.Owner.{same_symbol}
use Rattle.py_scopes.specs.Members.{class_by, class_of}
use Rattle.py_scopes.specs.Tables.{or_else}
use Rattle.py_scopes.proofs.members.all_classes.Given as goal

abbrev pub invariant-loop-occurrence : goal.invariant-loop-occurrence
invariant-loop-occurrence l = (x : Symbol) → or_else (get same_symbol l.classes x) (slice_get (filter_map (class_by l.search x) (drop l.occurrence-index l.all)) 0) ≡ class_of l.search x
