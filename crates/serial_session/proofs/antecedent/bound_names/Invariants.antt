use Rattle.std.proofs.Common.{◌≡◌, ℕ, List, Some, None, if◌then◌else◌, take}
use Rattle.serial_session.specs.Typing.{is_bound_in}
use Rattle.serial_session.specs.Antecedents.{entry_at}
use Rattle.serial_session.proofs.antecedent.bound_names.Given as goal

abbrev pub invariant-loop-form : goal.invariant-loop-form
invariant-loop-form l =
    (name : List ℕ) → entry_at l.names name ≡ (if is_bound_in (take l.form-index l.forms) name then Some None else None)
