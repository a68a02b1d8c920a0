-- The form in which each node of a tree runs (Python 3.12 language reference, sections 6 to 8): which of its parts run, in which order,
-- and what each is to it. Annotations, bounds of type parameters and the values of `type` statements don't run.
use Rattle.std.specs.Prelude.{ℕ, Bool, true, false, List, [], ◌∷◌, ◌++◌, Option, None, Some, drop, take, map, filter, if◌then◌else◌, ◌||◌}
use Rattle.py_base.specs.declared.ids.NodeId.{NodeId}
use Rattle.py_base.specs.declared.node.Node.{Node}
use Rattle.py_base.specs.declared.node.NodeKind.{NodeKind}
use Rattle.py_base.specs.declared.node.NodeKind.TheVariants as kinds
use Rattle.py_base.specs.Tree.{Arena}
use Rattle.flow_rows.specs.declared.route.Channel.TheVariants as channels
use Rattle.flow_rows.specs.declared.form.Form.{Form}
use Rattle.flow_rows.specs.declared.form.Form.TheVariants as forms
use Rattle.flow_rows.specs.declared.form.Branch.{Branch}
use Rattle.flow_rows.specs.declared.form.Handler.{Handler}
use Rattle.flow_rows.specs.declared.form.ComprehensionClause.{ComprehensionClause}
use Rattle.flow_rows.specs.declared.form.ComprehensionClause.TheVariants as comprehension_clauses
use Rattle.flow_forms.specs.declared.clauses.Clause.{Clause}
use Rattle.py_base.specs.Nodes.{kind_at, parts_at}
use Rattle.flow_forms.specs.Clauses.{running, first_or, second_or, last_or, clauses_of}
use Rattle.flow_forms.specs.Patterns.{gather, captures, values}

-- whether a part is the first clause of a comprehension
abbrev pub is_for : NodeKind → Bool
is_for kinds.ComprehensionFor = true
is_for kinds.AsyncComprehensionFor = true
is_for kind = false

-- whether these are an element and then clauses
abbrev pub is_comprehension : List Node → List NodeId → Bool
is_comprehension nodes (element ∷ clause ∷ more) = is_for (kind_at nodes clause)
is_comprehension nodes parts = false

abbrev pub comprehension_clause : NodeId → NodeKind → List NodeId → List ComprehensionClause
comprehension_clause k kinds.ComprehensionFor (targets ∷ iterable ∷ more) = comprehension_clauses.For k targets iterable ∷ []
comprehension_clause k kinds.AsyncComprehensionFor (targets ∷ iterable ∷ more) = comprehension_clauses.For k targets iterable ∷ []
comprehension_clause k kinds.ComprehensionIf (test ∷ more) = comprehension_clauses.If k test ∷ []
comprehension_clause k kind parts = []

abbrev pub comprehension_clauses_of : List Node → List NodeId → List ComprehensionClause
comprehension_clauses_of nodes [] = []
comprehension_clauses_of nodes (k ∷ more) = comprehension_clause k (kind_at nodes k) (parts_at nodes k) ++ comprehension_clauses_of nodes more

-- entries in brackets: a comprehension, or the entries in order
abbrev pub display_form : List Node → List NodeId → Form
display_form nodes parts =
    if is_comprehension nodes parts
    then forms.Comprehension (first_or (record { 0 = 0 }) parts) (comprehension_clauses_of nodes (drop 1 parts))
    else forms.Steps (running nodes parts)

-- one expression in round brackets without a comma is a group
abbrev pub round_form : List Node → List NodeId → Form
round_form nodes (p ∷ []) = forms.Group p
round_form nodes parts = display_form nodes parts

abbrev pub call_form : List Node → List NodeId → Form
call_form nodes [] = forms.Silent
call_form nodes (callee ∷ arguments) = forms.Call callee (running nodes arguments)

-- the default of a parameter, and its name; the name of a type parameter
abbrev pub default_in : NodeKind → List NodeId → List NodeId
default_in kinds.Parameter parts = drop 1 parts
default_in kinds.AnnotatedParameter parts = drop 2 parts
default_in kind parts = []

abbrev pub default_of : List Node → NodeId → List NodeId
default_of nodes p = default_in (kind_at nodes p) (parts_at nodes p)

abbrev pub name_in : NodeId → NodeKind → List NodeId → List NodeId
name_in p kinds.Name parts = p ∷ []
name_in p kinds.Parameter parts = take 1 parts
name_in p kinds.AnnotatedParameter parts = take 1 parts
name_in p kinds.StarParameter parts = take 1 parts
name_in p kinds.DoubleStarParameter parts = take 1 parts
name_in p kinds.TypeParameter parts = take 1 parts
name_in p kinds.StarTypeParameter parts = take 1 parts
name_in p kinds.DoubleStarTypeParameter parts = take 1 parts
name_in p kind parts = []

abbrev pub name_of : List Node → NodeId → List NodeId
name_of nodes p = name_in p (kind_at nodes p) (parts_at nodes p)

-- the names of a lambda's parameters, and its body, which is the last part
abbrev pub lambda_run : List Node → NodeId → List NodeId → List NodeId
lambda_run nodes p [] = p ∷ []
lambda_run nodes p (q ∷ more) = name_of nodes p ++ lambda_run nodes q more

abbrev pub lambda_form : List Node → List NodeId → Form
lambda_form nodes [] = forms.Silent
lambda_form nodes (p ∷ more) = forms.Function (record { before = gather (default_of nodes) (p ∷ more); run = lambda_run nodes p more })

-- all parts but the last
abbrev pub but_last : NodeId → List NodeId → List NodeId
but_last p [] = []
but_last p (q ∷ more) = p ∷ but_last q more

-- the value, and then the targets from left to right
abbrev pub assign_form : List NodeId → Form
assign_form [] = forms.Silent
assign_form (p ∷ more) = forms.Steps (last_or p more ∷ but_last p more)

-- the value and then the target; without a value what the target evaluates
abbrev pub annotated_form : List Node → List NodeId → Form
annotated_form nodes (target ∷ annotation ∷ []) = forms.Steps (running nodes (parts_at nodes target))
annotated_form nodes (target ∷ annotation ∷ value ∷ more) = forms.Steps (value ∷ target ∷ [])
annotated_form nodes parts = forms.Silent

-- the name that an import binds: of a dotted name it is the first
abbrev pub imported_in : NodeId → NodeKind → List NodeId → List NodeId
imported_in p kinds.DottedName parts = take 1 parts
imported_in p kinds.Alias parts = take 1 (drop 1 parts)
imported_in p kinds.LastComma parts = []
imported_in p kind parts = p ∷ []

abbrev pub imported : List Node → NodeId → List NodeId
imported nodes p = imported_in p (kind_at nodes p) (parts_at nodes p)

-- what runs of a part of a def, a class or a `type` statement where that stands
abbrev pub pieces_in : List Node → NodeKind → List NodeId → List NodeId
pieces_in nodes kinds.Decorator parts = running nodes parts
pieces_in nodes kinds.TypeParameters parts = gather (name_of nodes) parts
pieces_in nodes kinds.Parameters parts = gather (default_of nodes) parts
pieces_in nodes kinds.Arguments parts = running nodes parts
pieces_in nodes kind parts = []

abbrev pub pieces : List Node → NodeId → List NodeId
pieces nodes p = pieces_in nodes (kind_at nodes p) (parts_at nodes p)

-- the parameters of a def
abbrev pub parameters_in : List Node → NodeKind → List NodeId → List NodeId
parameters_in nodes kinds.Parameters parts = gather (name_of nodes) parts
parameters_in nodes kind parts = []

abbrev pub parameters : List Node → NodeId → List NodeId
parameters nodes p = parameters_in nodes (kind_at nodes p) (parts_at nodes p)

-- decorators, type parameters and defaults, and the name; in the graph the parameters and the body
abbrev pub def_form : List Node → List NodeId → List Clause → Form
def_form nodes parts [] = forms.Silent
def_form nodes parts (clause ∷ more) = forms.Function (record {
  before = gather (pieces nodes) parts ++ gather (pieces nodes) clause.parts ++ first_or clause.header clause.parts ∷ [];
  run = gather (parameters nodes) clause.parts ++ clause.body ∷ [];
})

-- decorators, type parameters, bases and the body, and then the name is bound
abbrev pub class_form : List Node → List NodeId → List Clause → Form
class_form nodes parts [] = forms.Silent
class_form nodes parts (clause ∷ more) =
    forms.Steps (gather (pieces nodes) parts ++ gather (pieces nodes) clause.parts ++ clause.body ∷ first_or clause.header clause.parts ∷ [])

-- the type parameters, and then the name, which is the second part
abbrev pub alias_form : List Node → List NodeId → Form
alias_form nodes (word ∷ name ∷ more) = forms.Steps (gather (pieces nodes) more ++ name ∷ [])
alias_form nodes parts = forms.Silent

abbrev pub assert_form : List NodeId → Form
assert_form (test ∷ []) = forms.Assert test None
assert_form (test ∷ message ∷ more) = forms.Assert test (Some message)
assert_form [] = forms.Silent

-- the first of the parts of a clause, if there is one
abbrev pub test_of : List NodeId → Option NodeId
test_of [] = None
test_of (p ∷ more) = Some p

abbrev pub branch_of : Clause → Branch
branch_of clause = record { test = test_of clause.parts; body = clause.body }

abbrev pub if_form : List Clause → Form
if_form [] = forms.Silent
if_form (clause ∷ more) = forms.Branches (branch_of clause) (map branch_of more)

-- the body of `else`, of `finally`
abbrev pub else_or : NodeKind → NodeId → Option NodeId → Option NodeId
else_or kinds.Else body rest = Some body
else_or kind body rest = rest

abbrev pub else_of : List Clause → Option NodeId
else_of [] = None
else_of (clause ∷ more) = else_or clause.kind clause.body (else_of more)

abbrev pub finally_or : NodeKind → NodeId → Option NodeId → Option NodeId
finally_or kinds.Finally body rest = Some body
finally_or kind body rest = rest

abbrev pub finally_of : List Clause → Option NodeId
finally_of [] = None
finally_of (clause ∷ more) = finally_or clause.kind clause.body (finally_of more)

abbrev pub while_form : List Clause → Form
while_form [] = forms.Silent
while_form (clause ∷ more) =
    forms.While (record { test = first_or clause.header clause.parts; body = clause.body; otherwise = else_of more })

abbrev pub for_form : List Clause → Form
for_form [] = forms.Silent
for_form (clause ∷ more) = forms.For (record {
  targets = first_or clause.header clause.parts;
  iterable = second_or clause.header clause.parts;
  body = clause.body;
  otherwise = else_of more;
})

-- the class, the name and the body of an `except` clause
abbrev pub handler_of : Clause → Handler
handler_of clause = record { header = clause.header; steps = clause.parts ++ clause.body ∷ [] }

abbrev pub handler_in : NodeKind → Clause → List Handler
handler_in kinds.Except clause = handler_of clause ∷ []
handler_in kinds.ExceptStar clause = handler_of clause ∷ []
handler_in kind clause = []

abbrev pub handlers_of : List Clause → List Handler
handlers_of [] = []
handlers_of (clause ∷ more) = handler_in clause.kind clause ++ handlers_of more

abbrev pub try_form : List Clause → Form
try_form [] = forms.Silent
try_form (clause ∷ more) = forms.Try (record {
  body = clause.body;
  handlers = handlers_of more;
  otherwise = else_of more;
  cleanup = finally_of more;
})

-- the items and the body
abbrev pub with_form : List Clause → Form
with_form [] = forms.Silent
with_form (clause ∷ more) = forms.Steps (clause.parts ++ clause.body ∷ [])

abbrev pub is_case : NodeKind → Bool
is_case kinds.CaseStatement = true
is_case kind = false

abbrev pub is_case_at : List Node → NodeId → Bool
is_case_at nodes n = is_case (kind_at nodes n)

-- the cases among the parts of a block; beside them it has error lines alone
abbrev pub cases_among : List Node → List NodeId → List NodeId
cases_among nodes parts = filter (is_case_at nodes) parts

-- the subject, and the cases in the block behind the header
abbrev pub match_form : List Node → List Clause → Form
match_form nodes [] = forms.Silent
match_form nodes (clause ∷ more) = forms.Match (record {
  subject = first_or clause.header clause.parts;
  cases = cases_among nodes (parts_at nodes clause.body);
})

-- the pattern's expressions and captures, the guard and the body
abbrev pub case_form : Arena → List Clause → Form
case_form a [] = forms.Silent
case_form a (clause ∷ more) = forms.Case (record {
  values = values 256 a (first_or clause.header clause.parts);
  captures = captures 256 a (first_or clause.header clause.parts);
  guard = test_of (drop 1 clause.parts);
  body = clause.body;
})

abbrev pub pair_form : (NodeId → NodeId → Form) → List NodeId → Form
pair_form form (p ∷ q ∷ more) = form p q
pair_form form parts = forms.Silent

abbrev pub not_form : List NodeId → Form
not_form (p ∷ more) = forms.Not p
not_form [] = forms.Silent

abbrev pub conditional_form : List NodeId → Form
conditional_form (value ∷ test ∷ other ∷ more) = forms.Conditional (record { value = value; test = test; other = other })
conditional_form parts = forms.Silent

-- the value, and then the name
abbrev pub named_form : List NodeId → Form
named_form (name ∷ value ∷ more) = forms.Steps (value ∷ name ∷ [])
named_form parts = forms.Silent

-- what has no form of its own: the parts in order and then the node, the parts in order, or nothing
abbrev pub is_atom : NodeKind → Bool
is_atom kinds.Name = true
is_atom kinds.Int = true
is_atom kinds.Float = true
is_atom kinds.Imaginary = true
is_atom kinds.Strings = true
is_atom kinds.BytesStrings = true
is_atom kinds.NoneValue = true
is_atom kinds.TrueValue = true
is_atom kinds.FalseValue = true
is_atom kinds.Ellipsis = true
is_atom kind = false

abbrev pub is_operation : NodeKind → Bool
is_operation kinds.Comparison = true
is_operation kinds.Binary = true
is_operation kinds.Unary = true
is_operation kinds.Await = true
is_operation kinds.Attribute = true
is_operation kinds.Subscript = true
is_operation kinds.Slice = true
is_operation kinds.Field = true
is_operation kinds.Format = true
is_operation kind = false

abbrev pub is_listing : NodeKind → Bool
is_listing kinds.Entries = true
is_listing kinds.Starred = true
is_listing kinds.DoubleStarred = true
is_listing kinds.Item = true
is_listing kinds.Targets = true
is_listing kinds.Yield = true
is_listing kinds.YieldFrom = true
is_listing kinds.AugmentedAssign = true
is_listing kinds.Pass = true
is_listing kinds.Del = true
is_listing kind = false

abbrev pub is_stepped : NodeKind → Bool
is_stepped kind = is_atom kind || is_operation kind || is_listing kind

abbrev pub is_sequence : NodeKind → Bool
is_sequence kinds.Statements = true
is_sequence kinds.Suite = true
is_sequence kinds.Block = true
is_sequence kinds.WithItem = true
is_sequence kind = false

abbrev pub plain_form : List Node → NodeKind → List NodeId → Form
plain_form nodes kind parts =
    if is_stepped kind then forms.Steps (running nodes parts)
    else if is_sequence kind then forms.Sequence (running nodes parts)
    else forms.Silent

abbrev pub form_with : Arena → NodeKind → List NodeId → List Clause → Form
form_with a kinds.IfStatement parts clauses = if_form clauses
form_with a kinds.WhileStatement parts clauses = while_form clauses
form_with a kinds.ForStatement parts clauses = for_form clauses
form_with a kinds.TryStatement parts clauses = try_form clauses
form_with a kinds.WithStatement parts clauses = with_form clauses
form_with a kinds.DefStatement parts clauses = def_form a.nodes parts clauses
form_with a kinds.ClassStatement parts clauses = class_form a.nodes parts clauses
form_with a kinds.MatchStatement parts clauses = match_form a.nodes clauses
form_with a kinds.CaseStatement parts clauses = case_form a clauses
form_with a kind parts clauses = forms.Silent

-- compound statements
abbrev pub compound_form : Arena → NodeKind → List NodeId → Form
compound_form a kinds.IfStatement parts = form_with a kinds.IfStatement parts (clauses_of a.nodes parts)
compound_form a kinds.WhileStatement parts = form_with a kinds.WhileStatement parts (clauses_of a.nodes parts)
compound_form a kinds.ForStatement parts = form_with a kinds.ForStatement parts (clauses_of a.nodes parts)
compound_form a kinds.TryStatement parts = form_with a kinds.TryStatement parts (clauses_of a.nodes parts)
compound_form a kinds.WithStatement parts = form_with a kinds.WithStatement parts (clauses_of a.nodes parts)
compound_form a kinds.DefStatement parts = form_with a kinds.DefStatement parts (clauses_of a.nodes parts)
compound_form a kinds.ClassStatement parts = form_with a kinds.ClassStatement parts (clauses_of a.nodes parts)
compound_form a kinds.MatchStatement parts = form_with a kinds.MatchStatement parts (clauses_of a.nodes parts)
compound_form a kinds.CaseStatement parts = form_with a kinds.CaseStatement parts (clauses_of a.nodes parts)
compound_form a kind parts = plain_form a.nodes kind parts

-- simple statements and modules; an error line is passed, and nothing in it runs
abbrev pub statement_form : Arena → NodeKind → List NodeId → Form
statement_form a kinds.Assign parts = assign_form parts
statement_form a kinds.AnnotatedAssign parts = annotated_form a.nodes parts
statement_form a kinds.Global parts = forms.Steps []
statement_form a kinds.Nonlocal parts = forms.Steps []
statement_form a kinds.ImportAll parts = forms.Steps []
statement_form a kinds.Fault parts = forms.Steps []
statement_form a kinds.Import parts = forms.Steps (gather (imported a.nodes) parts)
statement_form a kinds.ImportFrom parts = forms.Steps (gather (imported a.nodes) (drop 1 parts))
statement_form a kinds.TypeAlias parts = alias_form a.nodes parts
statement_form a kinds.Assert parts = assert_form parts
statement_form a kinds.Break parts = forms.Jump channels.Break (running a.nodes parts)
statement_form a kinds.Continue parts = forms.Jump channels.Continue (running a.nodes parts)
statement_form a kinds.Return parts = forms.Jump channels.Return (running a.nodes parts)
statement_form a kinds.Raise parts = forms.Jump channels.Raise (running a.nodes parts)
statement_form a kinds.Module parts = forms.Module (running a.nodes parts)
statement_form a kind parts = compound_form a kind parts

-- THE FORM of a node by its kind and its parts
abbrev pub form : Arena → NodeKind → List NodeId → Form
form a kinds.Round parts = round_form a.nodes parts
form a kinds.Square parts = display_form a.nodes parts
form a kinds.Curly parts = display_form a.nodes parts
form a kinds.Call parts = call_form a.nodes parts
form a kinds.And parts = pair_form forms.And parts
form a kinds.Or parts = pair_form forms.Or parts
form a kinds.Not parts = not_form parts
form a kinds.Conditional parts = conditional_form parts
form a kinds.Lambda parts = lambda_form a.nodes parts
form a kinds.Named parts = named_form parts
form a kinds.Keyword parts = forms.Steps (drop 1 parts)
form a kind parts = statement_form a kind parts

-- THE FORMS of all nodes of a tree, in the order of their numbers
abbrev pub forms_of : Arena → List Form
forms_of a = map (λ (node : Node). form a node.kind node.parts) a.nodes
