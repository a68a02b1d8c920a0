use Rattle.std.proofs.Common.{◌≡◌, map, take}
use Rattle.py_grammar.proofs.assemble.ids_of.Given as goal

abbrev pub invariant-loop-part : goal.invariant-loop-part
invariant-loop-part l = l.ids ≡ map (λ x. x.id) (take l.part-index l.parts)
