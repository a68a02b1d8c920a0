use Rattle.std.proofs.Common.{◌≡◌, ◌==◌, drop}
use Rattle.std.specs.Prelude.{find}
use Rattle.builtin_rows.proofs.held.type_among.Given as goal

abbrev pub invariant-loop-member : goal.invariant-loop-member
invariant-loop-member l = find (λ m. m.owner == l.owner) (drop l.member-index l.members) ≡ find (λ m. m.owner == l.owner) l.members
