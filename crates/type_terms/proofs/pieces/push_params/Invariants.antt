use Rattle.std.proofs.Common.{◌≡◌, ◌++◌, eqb, drop, true}
use Rattle.type_terms.specs.Pieces.{param_pieces}
use Rattle.type_terms.specs.View.{meaning_of}
use Rattle.type_terms.proofs.pieces.push_params.Given as goal

-- what has been written, and what is left to write
abbrev pub invariant-loop-place : goal.invariant-loop-place
invariant-loop-place g l =
    let m = meaning_of (g.V.Types.assignment l.view) (g.V.Names.names l.view) (g.V.Facts.facts l.view) (g.V.View.view l.view) in
    l.pieces ++ param_pieces m l.func (eqb l.place l.taken) l.place (drop l.place l.params) ≡ l.initial.pieces ++ param_pieces m l.func true l.taken (drop l.taken l.params)
