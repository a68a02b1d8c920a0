-- What defs, lambdas and class statements are made of (Python 3.12 language reference, 8.7, 6.14 and 8.8).
use Rattle.std.specs.Prelude.{false, List, [], ◌∷◌, Option, None, Some, if◌then◌else◌}
use Rattle.std.specs.List.{flat_map}
use Rattle.py_base.specs.declared.ids.NodeId.{NodeId}
use Rattle.py_base.specs.declared.node.Node.{Node}
use Rattle.py_base.specs.declared.node.NodeKind.{NodeKind}
use Rattle.py_base.specs.declared.node.NodeKind.TheVariants as kinds
use Rattle.py_base.specs.Nodes.{kind_at, parts_at}
use Rattle.node_shapes.specs.declared.clauses.Clause.{Clause}
use Rattle.node_shapes.specs.declared.clauses.Header.{Header}
use Rattle.node_shapes.specs.declared.clauses.Header.TheVariants as headers
use Rattle.node_shapes.specs.declared.definitions.Function.{Function}
use Rattle.node_shapes.specs.declared.definitions.ClassDefinition.{ClassDefinition}
use Rattle.node_shapes.specs.declared.parameters.Parameter.{Parameter}
use Rattle.node_shapes.specs.Kinds.{is_decorator}
use Rattle.node_shapes.specs.Parts.{last_or}
use Rattle.node_shapes.specs.Parameters.{parameters}
use Rattle.node_shapes.specs.Clauses.{clauses, header}

abbrev pub only : List Clause → Option Clause
only (clause ∷ []) = Some clause
only clauses = None

-- the only clause of a statement; none where it has several
abbrev pub only_clause : List Node → NodeId → Option Clause
only_clause nodes n = only (clauses nodes n)

abbrev pub function_by : Clause → Header → Option Function
function_by clause (headers.Def def) = Some (record {
  name = Some def.name;
  types = def.types;
  parameters = def.parameters;
  result = def.result;
  asynchronous = clause.asynchronous;
  body = clause.body;
})
function_by clause _ = None

abbrev pub function_of : List Node → Option Clause → Option Function
function_of nodes None = None
function_of nodes (Some clause) = function_by clause (header nodes clause.header)

abbrev pub lambda_of : NodeId → List NodeId → Option Function
lambda_of n [] = None
lambda_of n (p ∷ more) =
    Some (record { name = None; types = None; parameters = Some n; result = None; asynchronous = false; body = last_or p more })

abbrev pub function_in : List Node → NodeId → NodeKind → Option Function
function_in nodes n kinds.DefStatement = function_of nodes (only_clause nodes n)
function_in nodes n kinds.Lambda = lambda_of n (parts_at nodes n)
function_in nodes n kind = None

-- WHAT A DEF STATEMENT OR A LAMBDA IS MADE OF; none of another node
abbrev pub function : List Node → NodeId → Option Function
function nodes n = function_in nodes n (kind_at nodes n)

abbrev pub parameters_by : List Node → Option NodeId → List Parameter
parameters_by nodes None = []
parameters_by nodes (Some p) = parameters nodes p

abbrev pub parameters_in : List Node → Option Function → List Parameter
parameters_in nodes None = []
parameters_in nodes (Some function) = parameters_by nodes function.parameters

-- THE PARAMETERS OF A DEF STATEMENT OR A LAMBDA, in the order of the text
abbrev pub parameters_of : List Node → NodeId → List Parameter
parameters_of nodes n = parameters_in nodes (function nodes n)

abbrev pub class_by : Clause → Header → Option ClassDefinition
class_by clause (headers.Class class) =
    Some (record { name = class.name; types = class.types; arguments = class.arguments; body = clause.body })
class_by clause _ = None

abbrev pub class_of : List Node → Option Clause → Option ClassDefinition
class_of nodes None = None
class_of nodes (Some clause) = class_by clause (header nodes clause.header)

-- WHAT A CLASS STATEMENT IS MADE OF; none of another node. Bases and keywords are the entries of its arguments.
abbrev pub class_definition : List Node → NodeId → Option ClassDefinition
class_definition nodes n = class_of nodes (only_clause nodes n)

-- the expression of a decorator among the parts of a def or a class
abbrev pub decorator_in : List Node → NodeId → List NodeId
decorator_in nodes p = if is_decorator (kind_at nodes p) then parts_at nodes p else []

-- THE EXPRESSIONS OF THE DECORATORS of a def or a class, in the order of the text
abbrev pub decorators_of : List Node → NodeId → List NodeId
decorators_of nodes n = flat_map (decorator_in nodes) (parts_at nodes n)
