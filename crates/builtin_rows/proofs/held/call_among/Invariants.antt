use Rattle.std.proofs.Common.{◌≡◌, drop}
use Rattle.std.specs.Prelude.{find}
use Rattle.builtin_rows.specs.Rows.{is_call}
use Rattle.builtin_rows.proofs.held.call_among.Given as goal

abbrev pub invariant-loop-row : goal.invariant-loop-row
invariant-loop-row l = find (λ h. is_call h.owner) (drop l.row-index l.held) ≡ find (λ h. is_call h.owner) l.held
