use Rattle.std.proofs.Common.{[], ap, ◌∙◌, arith, length}
use Rattle.std.specs.Prelude.{filter_map, fold}
use Rattle.py_scopes.specs.Members.{bound_symbol, with_symbol}
use Rattle.py_scopes.proofs.Walks.{fold-step}
use Rattle.py_scopes.proofs.Classes.{length-with, all-taken}
use Rattle.py_scopes.proofs.members.symbols.Goals as goal

pub loop-occurrence-preserved : goal.loop-occurrence-preserved
loop-occurrence-preserved c =
    let all = c.occurrences-all.result.now in
    let added = ap length c.in_ok-add_symbol.ensures in
    let more = length-with c.loop-occurrence.numbers.keys c.bound_symbol.result in
    record {
      after = fold-step with_symbol [] c.loop-occurrence.numbers.keys c.add_symbol.new.symbols.keys (bound_symbol c.args.instances.now) all c.loop-occurrence.occurrence-index c.occurrence-item.result
          c.bound_symbol.result (omega arith) c.occurrence-item.is c.in_ok-add_symbol.ensures c.bound_symbol.ensures c.loop-occurrence.invariant.after;
      room = omega (arith, added, more, c.loop-occurrence.invariant.room);
    }

pub returns-clause-symbols : goal.returns-clause-symbols
returns-clause-symbols c =
    let all = c.occurrences-all.result.now in
    c.loop-occurrence.invariant.after ∙ ap (λ l. fold with_symbol [] (filter_map (bound_symbol c.args.instances.now) l)) (all-taken all c.loop-occurrence.occurrence-index (omega arith) ∙ c.occurrences-all.ensures)

pub returns-clause-room : goal.returns-clause-room
returns-clause-room c = let same = ap length c.occurrences-all.ensures in omega (arith, same, c.loop-occurrence.invariant.room)
