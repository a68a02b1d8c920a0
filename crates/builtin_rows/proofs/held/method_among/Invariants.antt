use Rattle.std.proofs.Common.{◌≡◌, drop}
use Rattle.std.specs.Prelude.{find}
use Rattle.builtin_rows.specs.Rows.{is_method_of}
use Rattle.builtin_rows.proofs.held.method_among.Given as goal

abbrev pub invariant-loop-row : goal.invariant-loop-row
invariant-loop-row l = find (λ h. is_method_of l.class h.owner) (drop l.row-index l.held) ≡ find (λ h. is_method_of l.class h.owner) l.held
