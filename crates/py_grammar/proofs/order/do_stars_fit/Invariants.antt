use Rattle.std.proofs.Common.{◌≡◌, length, map}
use Rattle.py_grammar.specs.Proper.{stars_fit}
use Rattle.py_grammar.proofs.order.do_stars_fit.Given as goal

abbrev pub invariant-parts : goal.invariant-parts
invariant-parts l = stars_fit (map (λ x. x.kind) l.rest) ≡ stars_fit (map (λ x. x.kind) l.parts)

abbrev pub decreases-parts : goal.decreases-parts
decreases-parts l = length l.rest
