use Rattle.std.proofs.Common.{◌≡◌, take}
use Rattle.py_scopes.specs.Owner.{is_binding, is_global_name, is_nonlocal_name}
use Rattle.py_scopes.specs.Members.{is_of_init}
use Rattle.py_scopes.specs.Tables.{names_said}
use Rattle.py_scopes.proofs.said.names_said.Given as goal

abbrev pub invariant-loop-occurrence : goal.invariant-loop-occurrence
invariant-loop-occurrence l = record {
  bound : l.names.bound.keys ≡ names_said is_binding (take l.occurrence-index l.all);
  globals : l.names.globals.keys ≡ names_said is_global_name (take l.occurrence-index l.all);
  nonlocals : l.names.nonlocals.keys ≡ names_said is_nonlocal_name (take l.occurrence-index l.all);
  inits : l.names.inits.keys ≡ names_said is_of_init (take l.occurrence-index l.all);
}
