use Rattle.std.proofs.Common.{[], refl, arith}
use Rattle.py_scopes.specs.Owner.{is_binding, is_global_name, is_nonlocal_name}
use Rattle.py_scopes.specs.Members.{is_of_init, with_symbol}
use Rattle.py_scopes.specs.Tables.{said_at}
use Rattle.py_scopes.proofs.Walks.{fold-step}
use Rattle.py_scopes.proofs.said.names_said.Goals as goal

pub loop-occurrence-preserved : goal.loop-occurrence-preserved
loop-occurrence-preserved c =
    let all = c.args.all.now in
    let o = c.occurrence-item.result in
    record {
      bound = fold-step with_symbol [] c.loop-occurrence.names.bound.keys c.add_said.new.names.bound.keys (said_at is_binding) all c.loop-occurrence.occurrence-index o (said_at is_binding o)
          (omega arith) c.occurrence-item.is c.in_ok-add_said.ensures.bound refl c.loop-occurrence.invariant.bound;
      globals = fold-step with_symbol [] c.loop-occurrence.names.globals.keys c.add_said.new.names.globals.keys (said_at is_global_name) all c.loop-occurrence.occurrence-index o (said_at is_global_name o)
          (omega arith) c.occurrence-item.is c.in_ok-add_said.ensures.globals refl c.loop-occurrence.invariant.globals;
      nonlocals = fold-step with_symbol [] c.loop-occurrence.names.nonlocals.keys c.add_said.new.names.nonlocals.keys (said_at is_nonlocal_name) all c.loop-occurrence.occurrence-index o (said_at is_nonlocal_name o)
          (omega arith) c.occurrence-item.is c.in_ok-add_said.ensures.nonlocals refl c.loop-occurrence.invariant.nonlocals;
      inits = fold-step with_symbol [] c.loop-occurrence.names.inits.keys c.add_said.new.names.inits.keys (said_at is_of_init) all c.loop-occurrence.occurrence-index o (said_at is_of_init o)
          (omega arith) c.occurrence-item.is c.in_ok-add_said.ensures.inits refl c.loop-occurrence.invariant.inits;
    }
