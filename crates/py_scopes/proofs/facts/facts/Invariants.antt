use Rattle.std.proofs.Common.{◌≡◌, map, take}
use Rattle.py_scopes.specs.Table.{facts_of}
use Rattle.py_scopes.proofs.facts.facts.Given as goal

abbrev pub invariant-loop-symbol : goal.invariant-loop-symbol
invariant-loop-symbol l = l.facts ≡ map (facts_of l.tree l.instances l.numbers.keys) (take l.symbol-index l.symbols)
