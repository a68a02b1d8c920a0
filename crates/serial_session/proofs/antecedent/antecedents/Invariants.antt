use Rattle.std.proofs.Common.{◌≡◌, ◌<◌, ℕ, List, None, length, take, slice_index_or}
use Rattle.serial_session.specs.declared.form.Form.{Form}
use Rattle.serial_session.specs.Typing.{is_bound_in}
use Rattle.serial_session.specs.Antecedents.{entry_at, binding_below, antecedent_of}
use Rattle.serial_session.proofs.antecedent.antecedents.Given as goal

-- the antecedents of the lines so far, and what the map says of each name
abbrev pub invariant-loop-line : goal.invariant-loop-line
invariant-loop-line l = record {
  len : length l.antecedents.items ≡ l.line;
  each : (i : ℕ) (form : Form) → i < l.line → slice_index_or l.antecedents.items i None ≡ antecedent_of (is_bound_in l.forms) (take i l.forms) (slice_index_or l.forms i form);
  noted : (name : List ℕ) → entry_at l.bindings name ≡ binding_below (is_bound_in l.forms) (take l.line l.forms) name;
}
