-- The diagnostic of a read, told by its antecedent.
-- Python 3.12 language reference, 4.2.2 (resolution of names).
use Rattle.std.specs.Prelude.{ℕ, List, Option, Some, None}
use Rattle.py_base.specs.declared.span.Span.{Span}
use Rattle.py_base.specs.declared.diag.Diag.{Diag}
use Rattle.serial_session.specs.declared.form.NameUse.{NameUse}
use Rattle.serial_session.specs.declared.antecedent.Antecedent.{Antecedent}
use Rattle.serial_session.specs.declared.antecedent.Antecedent.TheVariants.{Line, Unbound, Undefined}
use Rattle.serial_session.specs.Typing.{unbound_at, undefined_at}

-- none where some line above binds the name
abbrev pub fault_by : (Span → List ℕ) → NameUse → Option Antecedent → Option Diag
fault_by at read None = None
fault_by at read (Some (Line line)) = None
fault_by at read (Some Unbound) = Some (unbound_at at read)
fault_by at read (Some Undefined) = Some (undefined_at at read)
