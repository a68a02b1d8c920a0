use Rattle.std.proofs.Common.{[], arith}
use Rattle.py_scopes.specs.Members.{with_symbol}
use Rattle.py_scopes.specs.Tables.{symbol_at}
use Rattle.py_scopes.proofs.Walks.{fold-step}
use Rattle.py_scopes.proofs.search.all_symbols.Goals as goal

pub loop-occurrence-preserved : goal.loop-occurrence-preserved
loop-occurrence-preserved c =
    let all = c.occurrences-all.result.now in
    fold-step with_symbol [] c.loop-occurrence.symbols.keys c.add_symbol.new.symbols.keys (symbol_at c.args.said.now) all c.loop-occurrence.occurrence-index c.occurrence-item.result c.symbol_at.result
    (omega arith) c.occurrence-item.is c.in_ok-add_symbol.ensures c.symbol_at.ensures c.loop-occurrence.invariant
