use Rattle.std.proofs.Common.{◌≡◌, [], take}
use Rattle.std.specs.Prelude.{filter_map, fold}
use Rattle.py_scopes.specs.Members.{with_symbol}
use Rattle.py_scopes.specs.Tables.{symbol_at}
use Rattle.py_scopes.proofs.search.all_symbols.Given as goal

abbrev pub invariant-loop-occurrence : goal.invariant-loop-occurrence
invariant-loop-occurrence l = l.symbols.keys ≡ fold with_symbol [] (filter_map (symbol_at l.said) (take l.occurrence-index l.all))
