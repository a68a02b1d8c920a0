use Rattle.std.proofs.Common.{◌≡◌, ◌++◌, ◌-◌, eqb, true}
use Rattle.type_terms.specs.Pieces.{site_slots_pieces}
use Rattle.type_terms.proofs.pieces.push_site_slots.Given as goal

-- what has been written, and what is left to write
abbrev pub invariant-loop-place : goal.invariant-loop-place
invariant-loop-place l =
    l.pieces ++ site_slots_pieces l.site (eqb l.place 0) l.place (l.count - l.place) ≡ l.initial.pieces ++ site_slots_pieces l.site true 0 l.count
