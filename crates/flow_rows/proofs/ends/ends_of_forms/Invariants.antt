use Rattle.std.proofs.Common.{◌≡◌, [], drop, length}
use Rattle.flow_rows.specs.Ends.{grow}
use Rattle.flow_rows.proofs.ends.ends_of_forms.Given as goal

abbrev pub invariant-loop-form : goal.invariant-loop-form
invariant-loop-form l = record {
  table : grow l.ends (drop l.form-index l.forms) ≡ grow [] l.forms;
  long : length l.ends ≡ l.form-index;
}
