use Rattle.std.proofs.Common.{◌≡◌, ◌++◌, drop, map}
use Rattle.py_base.specs.declared.key.Key.TheVariants as key
use Rattle.value_terms.specs.declared.part.Part.TheVariants.{Each}
use Rattle.op_rules.specs.Steps.{path_steps}
use Rattle.op_rules.proofs.members.seen_by.Given as goal

abbrev pub invariant-loop-symbol : goal.invariant-loop-symbol
invariant-loop-symbol l = l.parts ++ map (λ symbol. Each (key.Sym symbol) (path_steps l.path)) (drop l.symbol-index l.symbols) ≡ map (λ symbol. Each (key.Sym symbol) (path_steps l.path)) l.symbols
