-- The first and the last point of each node: the textbook's initial and final label, here one point each (Nielson, Nielson, Hankin:
-- Principles of Program Analysis, section 2.1; Python 3.12 language reference, section 6.16, for what is evaluated first).
use Rattle.std.specs.Prelude.{ℕ, List, [], ◌∷◌, ◌++◌, Option, None, Some, slice_get, length}
use Rattle.py_base.specs.declared.ids.NodeId.{NodeId}
use Rattle.flow_rows.specs.declared.point.Point.{Point}
use Rattle.flow_rows.specs.declared.point.Role.{Role}
use Rattle.flow_rows.specs.declared.point.Role.TheVariants as roles
use Rattle.flow_rows.specs.declared.form.Form.{Form}
use Rattle.flow_rows.specs.declared.form.Form.TheVariants as forms
use Rattle.flow_rows.specs.declared.form.Branch.{Branch}
use Rattle.flow_rows.specs.declared.form.ComprehensionClause.{ComprehensionClause}
use Rattle.flow_rows.specs.declared.form.ComprehensionClause.TheVariants as clauses
use Rattle.flow_rows.specs.declared.ends.Lead.{Lead}
use Rattle.flow_rows.specs.declared.ends.Ends.{Ends}

abbrev pub lead : NodeId → Role → Lead
lead n role = record { node = n; role = role }

abbrev pub known : NodeId → Option Ends → Ends
known n None = record { first = lead n roles.Own; last = lead n roles.Own }
known n (Some ends) = ends

-- the ends of a node by the table of all nodes
abbrev pub ends_of : List Ends → NodeId → Ends
ends_of t n = known n (slice_get t n.0)

abbrev pub first_of : List Ends → NodeId → ℕ → Point
first_of t n c = record { node = (ends_of t n).first.node; role = (ends_of t n).first.role; copy = c }

abbrev pub last_of : List Ends → NodeId → ℕ → Point
last_of t n c = record { node = (ends_of t n).last.node; role = (ends_of t n).last.role; copy = c }

-- where parts in order begin and end; without parts here
abbrev pub first_in : List Ends → Lead → List NodeId → Lead
first_in t here [] = here
first_in t here (p ∷ more) = (ends_of t p).first

abbrev pub last_in : List Ends → Lead → List NodeId → Lead
last_in t here [] = here
last_in t here (p ∷ more) = last_in t (ends_of t p).last more

-- a branch begins with its test, and `else` with its body
abbrev pub branch_lead : List Ends → Option NodeId → NodeId → Lead
branch_lead t None body = (ends_of t body).first
branch_lead t (Some test) body = (ends_of t test).first

-- a comprehension begins with the iterable of its first clause
abbrev pub clauses_lead : List Ends → Lead → List ComprehensionClause → Lead
clauses_lead t here [] = here
clauses_lead t here (clauses.For k targets iterable ∷ more) = (ends_of t iterable).first
clauses_lead t here (clauses.If k test ∷ more) = (ends_of t test).first

-- what comes first in each form: a part that is evaluated before all else, or a point of the form itself
abbrev pub first_lead : List Ends → NodeId → Form → Lead
first_lead t n forms.Silent = lead n roles.Own
first_lead t n (forms.Steps parts) = first_in t (lead n roles.Own) parts
first_lead t n (forms.Sequence parts) = first_in t (lead n roles.Own) parts
first_lead t n (forms.Call callee arguments) = (ends_of t callee).first
first_lead t n (forms.And a b) = (ends_of t a).first
first_lead t n (forms.Or a b) = (ends_of t a).first
first_lead t n (forms.Not a) = (ends_of t a).first
first_lead t n (forms.Group a) = (ends_of t a).first
first_lead t n (forms.Conditional choice) = (ends_of t choice.test).first
first_lead t n (forms.Comprehension element clauses) = clauses_lead t (lead n roles.Own) clauses
first_lead t n (forms.Function function) = first_in t (lead n roles.Own) function.before
first_lead t n (forms.Jump channel parts) = first_in t (lead n roles.Own) parts
first_lead t n (forms.Assert test message) = (ends_of t test).first
first_lead t n (forms.Branches branch more) = branch_lead t branch.test branch.body
first_lead t n (forms.While loop) = lead n roles.Again
first_lead t n (forms.For loop) = (ends_of t loop.iterable).first
first_lead t n (forms.Try form) = lead n roles.Own
first_lead t n (forms.Match form) = (ends_of t form.subject).first
first_lead t n (forms.Case form) = first_in t (lead n roles.Own) form.values
first_lead t n (forms.Module statements) = lead n roles.Start

-- what comes last in each form; behind a jump stands a label that nothing reaches
abbrev pub last_lead : List Ends → NodeId → Form → Lead
last_lead t n forms.Silent = lead n roles.Own
last_lead t n (forms.Steps parts) = lead n roles.Own
last_lead t n (forms.Sequence parts) = last_in t (lead n roles.Own) parts
last_lead t n (forms.Call callee arguments) = lead n roles.Own
last_lead t n (forms.And a b) = lead n roles.Own
last_lead t n (forms.Or a b) = lead n roles.Own
last_lead t n (forms.Not a) = lead n roles.Own
last_lead t n (forms.Group a) = lead n roles.Own
last_lead t n (forms.Conditional choice) = lead n roles.Own
last_lead t n (forms.Comprehension element clauses) = lead n roles.Own
last_lead t n (forms.Function function) = lead n roles.Own
last_lead t n (forms.Jump channel parts) = lead n roles.Behind
last_lead t n (forms.Assert test message) = lead n roles.Own
last_lead t n (forms.Branches branch more) = lead n roles.Behind
last_lead t n (forms.While loop) = lead n roles.Behind
last_lead t n (forms.For loop) = lead n roles.Behind
last_lead t n (forms.Try form) = lead n roles.Behind
last_lead t n (forms.Match form) = lead n roles.Behind
last_lead t n (forms.Case form) = (ends_of t form.body).last
last_lead t n (forms.Module statements) = last_in t (lead n roles.Start) statements

abbrev pub ends_entry : List Ends → ℕ → Form → Ends
ends_entry t i form =
    let n : NodeId = record { 0 = i } in
    record { first = first_lead t n form; last = last_lead t n form }

-- the table, an entry for each node, by the entries of the older nodes
abbrev pub grow : List Ends → List Form → List Ends
grow t [] = t
grow t (form ∷ more) = grow (t ++ ends_entry t (length t) form ∷ []) more

abbrev pub ends_table : List Form → List Ends
ends_table forms = grow [] forms
