use Rattle.std.proofs.Common.{◌≡◌, ◌++◌, eqb, drop, true}
use Rattle.type_terms.specs.Pieces.{types_pieces}
use Rattle.type_terms.proofs.pieces.push_types.Given as goal

-- what has been written, and what is left to write
abbrev pub invariant-loop-place : goal.invariant-loop-place
invariant-loop-place l = l.pieces ++ types_pieces (eqb l.place 0) (drop l.place l.types) ≡ l.initial.pieces ++ types_pieces true l.types
