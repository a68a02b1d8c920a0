use Rattle.std.proofs.Common.{◌≡◌, length}
use Rattle.py_grammar.specs.Found.{assigned_over}
use Rattle.py_grammar.proofs.assemble.are_assigned.Given as goal

abbrev pub invariant-parts : goal.invariant-parts
invariant-parts l = assigned_over l.rest ≡ assigned_over l.parts

abbrev pub decreases-parts : goal.decreases-parts
decreases-parts l = length l.rest
