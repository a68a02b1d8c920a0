use Rattle.std.proofs.Common.{◌≡◌, ◌++◌, drop}
use Rattle.serial_session.specs.Typing.{is_bound_in, diags_behind, typing_diags}
use Rattle.py_base.specs.Places.{at_of}
use Rattle.serial_session.specs.LineTypes.{bound_above}
use Rattle.serial_session.proofs.typing.typing_diags.Given as goal

-- with the diagnostics of the lines that are left, the list is the whole one
abbrev pub invariant-loop-line : goal.invariant-loop-line
invariant-loop-line l = record {
  same : l.walk ≡ l.forms;
  so_far : l.list ++ diags_behind (at_of l.places) (is_bound_in l.forms) (bound_above l.forms l.line) (drop l.line l.forms) ≡ typing_diags (at_of l.places) l.forms;
}
