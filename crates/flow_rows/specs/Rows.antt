-- The row of each form: how a node of this form flows in a copy and a mode (Python 3.12 language reference, sections 6 to 8).
use Rattle.std.specs.Prelude.{ℕ, List}
use Rattle.py_base.specs.declared.ids.NodeId.{NodeId}
use Rattle.flow_rows.specs.declared.route.Mode.{Mode}
use Rattle.flow_rows.specs.declared.route.Row.{Row}
use Rattle.flow_rows.specs.declared.form.Form.{Form}
use Rattle.flow_rows.specs.declared.form.Form.TheVariants as forms
use Rattle.flow_rows.specs.declared.choices.Operation.TheVariants as operations
use Rattle.flow_rows.specs.declared.ends.Ends.{Ends}
use Rattle.flow_rows.specs.Paths.{empty}
use Rattle.flow_rows.specs.Expressions.{steps_row, sequence_row, call_row, operation_row, group_row, choice_row, comprehension_row, function_row, body_row}
use Rattle.flow_rows.specs.Statements.{jump_row, assert_row, branches_row, while_row, for_row, try_row, match_row, case_row}

-- a node where it stands
abbrev pub row : List Ends → NodeId → Form → ℕ → Mode → Row
row t n forms.Silent c m = empty
row t n (forms.Steps parts) c m = steps_row t n parts c m
row t n (forms.Sequence parts) c m = sequence_row t parts c
row t n (forms.Call callee arguments) c m = call_row t n callee arguments c m
row t n (forms.And a b) c m = operation_row t n (operations.And a b) c m
row t n (forms.Or a b) c m = operation_row t n (operations.Or a b) c m
row t n (forms.Not a) c m = operation_row t n (operations.Not a) c m
row t n (forms.Group a) c m = group_row t n a c m
row t n (forms.Conditional choice) c m = choice_row t n choice c m
row t n (forms.Comprehension element clauses) c m = comprehension_row t n element clauses c m
row t n (forms.Function function) c m = function_row t n function c m
row t n (forms.Jump channel parts) c m = jump_row t n channel parts c
row t n (forms.Assert test message) c m = assert_row t n test message c
row t n (forms.Branches branch more) c m = branches_row t n branch more c
row t n (forms.While loop) c m = while_row t n loop c
row t n (forms.For loop) c m = for_row t n loop c
row t n (forms.Try form) c m = try_row t n form c
row t n (forms.Match form) c m = match_row t n form c
row t n (forms.Case form) c m = case_row t n form c
row t n (forms.Module statements) c m = empty

-- the graph of a module, a def or a lambda
abbrev pub graph_row : List Ends → NodeId → Form → Row
graph_row t n (forms.Function function) = body_row t n function.run
graph_row t n (forms.Module statements) = body_row t n statements
graph_row t n form = empty
