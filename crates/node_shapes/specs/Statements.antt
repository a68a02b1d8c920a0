-- What each statement is (Python 3.12 language reference, section 7 for simple statements, 8 for compound ones). An expression as a statement
-- is the node of the expression.
use Rattle.std.specs.Prelude.{List, [], ◌∷◌, None, Some}
use Rattle.std.specs.List.{flat_map}
use Rattle.py_base.specs.declared.node.Word.{Word}
use Rattle.py_base.specs.declared.node.Word.TheVariants as words
use Rattle.py_base.specs.declared.ids.NodeId.{NodeId}
use Rattle.py_base.specs.declared.node.Node.{Node}
use Rattle.py_base.specs.declared.node.NodeKind.{NodeKind}
use Rattle.py_base.specs.declared.node.NodeKind.TheVariants as kinds
use Rattle.py_base.specs.Nodes.{kind_at, parts_at, word_at}
use Rattle.node_shapes.specs.declared.expressions.Expression.{Expression}
use Rattle.node_shapes.specs.declared.expressions.Expression.TheVariants as form
use Rattle.node_shapes.specs.declared.statements.Statement.{Statement}
use Rattle.node_shapes.specs.declared.statements.Statement.TheVariants as statements
use Rattle.node_shapes.specs.Expressions.{expression}
use Rattle.node_shapes.specs.Parts.{last_or, but_last}

abbrev pub expression_statement : Expression → Statement
expression_statement form.NoExpression = statements.NoStatement
expression_statement e = statements.Expression

abbrev pub annotated_assignment : List NodeId → Statement
annotated_assignment (target ∷ annotation ∷ []) = statements.AnnotatedAssign (record { target = target; annotation = annotation; value = None })
annotated_assignment (target ∷ annotation ∷ value ∷ []) =
    statements.AnnotatedAssign (record { target = target; annotation = annotation; value = Some value })
annotated_assignment parts = statements.NoStatement

abbrev pub augmented_assignment : Word → List NodeId → Statement
augmented_assignment (words.Op op) (target ∷ value ∷ []) = statements.AugmentedAssign (record { op = op; target = target; value = value })
augmented_assignment word parts = statements.NoStatement

abbrev pub return_statement : List NodeId → Statement
return_statement [] = statements.Return None
return_statement (value ∷ []) = statements.Return (Some value)
return_statement parts = statements.NoStatement

abbrev pub raise_statement : List NodeId → Statement
raise_statement [] = statements.Raise None None
raise_statement (value ∷ []) = statements.Raise (Some value) None
raise_statement (value ∷ cause ∷ []) = statements.Raise (Some value) (Some cause)
raise_statement parts = statements.NoStatement

abbrev pub assert_statement : List NodeId → Statement
assert_statement (test ∷ []) = statements.Assert test None
assert_statement (test ∷ message ∷ []) = statements.Assert test (Some message)
assert_statement parts = statements.NoStatement

abbrev pub type_statement : List NodeId → Statement
type_statement (word ∷ name ∷ value ∷ []) = statements.TypeAlias (record { name = name; types = None; value = value })
type_statement (word ∷ name ∷ types ∷ value ∷ []) = statements.TypeAlias (record { name = name; types = Some types; value = value })
type_statement parts = statements.NoStatement

abbrev pub one_part : (NodeId → Statement) → List NodeId → Statement
one_part f (p ∷ []) = f p
one_part f parts = statements.NoStatement

abbrev pub assignment : List NodeId → Statement
assignment (target ∷ p ∷ more) = statements.Assign (last_or p more)
assignment parts = statements.NoStatement

abbrev pub origin_first : List NodeId → Statement
origin_first (origin ∷ item ∷ more) = statements.ImportFrom origin
origin_first parts = statements.NoStatement

-- by kind, word and parts; what else an expression is, is one
abbrev pub statement_by : NodeKind → Word → List NodeId → Expression → Statement
statement_by kinds.Assign word parts e = assignment parts
statement_by kinds.AnnotatedAssign word parts e = annotated_assignment parts
statement_by kinds.AugmentedAssign word parts e = augmented_assignment word parts
statement_by kinds.Pass word parts e = statements.Pass
statement_by kinds.Break word parts e = statements.Break
statement_by kinds.Continue word parts e = statements.Continue
statement_by kinds.Return word parts e = return_statement parts
statement_by kinds.Raise word parts e = raise_statement parts
statement_by kinds.Global word parts e = statements.Global
statement_by kinds.Nonlocal word parts e = statements.Nonlocal
statement_by kinds.Del word parts e = one_part statements.Del parts
statement_by kinds.Assert word parts e = assert_statement parts
statement_by kinds.Import word parts e = statements.Import
statement_by kinds.ImportFrom word parts e = origin_first parts
statement_by kinds.ImportAll word parts e = one_part statements.ImportAll parts
statement_by kinds.TypeAlias word parts e = type_statement parts
statement_by kinds.IfStatement word parts e = statements.Compound
statement_by kinds.WhileStatement word parts e = statements.Compound
statement_by kinds.ForStatement word parts e = statements.Compound
statement_by kinds.TryStatement word parts e = statements.Compound
statement_by kinds.WithStatement word parts e = statements.Compound
statement_by kinds.DefStatement word parts e = statements.Compound
statement_by kinds.ClassStatement word parts e = statements.Compound
statement_by kinds.MatchStatement word parts e = statements.Compound
statement_by kinds.Fault word parts e = statements.Fault
statement_by kind word parts e = expression_statement e

-- WHAT A STATEMENT IS; what a compound one says is in its clauses, what an import brings in its items, and the parts of `global` and `nonlocal`
-- are the names
abbrev pub statement : List Node → NodeId → Statement
statement nodes n = statement_by (kind_at nodes n) (word_at nodes n) (parts_at nodes n) (expression nodes n)

abbrev pub targets_by : NodeKind → List NodeId → List NodeId
targets_by kinds.Assign parts = but_last parts
targets_by kind parts = []

-- THE TARGETS OF AN ASSIGNMENT, each before a `=`, in the order of the text
abbrev pub assigned_targets : List Node → NodeId → List NodeId
assigned_targets nodes n = targets_by (kind_at nodes n) (parts_at nodes n)

-- statements side by side by `;` are statements of what holds them
abbrev pub flat : List Node → NodeId → List NodeId
flat nodes p = elim (kind_at nodes p) as (λ _. List NodeId) [ kinds.Statements ↦ parts_at nodes p | _ ↦ p ∷ [] ]

-- the parts that are statements
abbrev pub listed_statements : NodeKind → List NodeId → List NodeId
listed_statements kinds.Module parts = parts
listed_statements kinds.Block parts = parts
listed_statements kinds.Suite parts = parts
listed_statements kind parts = []

-- THE STATEMENTS OF A MODULE, A BLOCK OR A HEADER'S LINE, in the order of the text, error lines among them
abbrev pub statements_of : List Node → NodeId → List NodeId
statements_of nodes n = flat_map (flat nodes) (listed_statements (kind_at nodes n) (parts_at nodes n))
