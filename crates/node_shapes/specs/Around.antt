-- In which statement, def, class and function a node stands (Python 3.12 language reference, 8.7 and 8.8: decorators, defaults and bases are
-- evaluated where the def or the class is defined; 8.10 for type parameters, 6.14 for lambdas). So a def is around what is in its body alone:
-- not its decorators, parameters, annotations and type parameters; a class likewise; and a lambda is around the expression that it gives.
use Rattle.std.specs.Prelude.{◌==◌, ◌-◌, Bool, false, ◌&&◌, ◌||◌, List, [], ◌∷◌, Option, None, Some, if◌then◌else◌}
use Rattle.py_base.specs.declared.ids.NodeId.{NodeId}
use Rattle.py_base.specs.declared.node.Node.{Node}
use Rattle.py_base.specs.declared.node.NodeKind.{NodeKind}
use Rattle.node_shapes.specs.declared.outward.Step.{Step}
use Rattle.node_shapes.specs.declared.surroundings.Sought.{Sought}
use Rattle.node_shapes.specs.declared.surroundings.Sought.TheVariants as sought
use Rattle.node_shapes.specs.Kinds.{is_def, is_class, is_lambda, is_function, is_match, is_async, is_block, is_suite, holds_statements, is_single}
use Rattle.node_shapes.specs.Outward.{outward}

-- what is looked for
abbrev pub is_sought : Sought → NodeKind → Bool
is_sought sought.Def = is_def
is_sought sought.Class = is_class
is_sought sought.Function = is_function
is_sought sought.Match = is_match

-- behind the statements in a header's line come the header, and `async` if that stands there
abbrev pub leaves_suite : Bool → Step → Bool
leaves_suite inside s = is_suite s.inner || (inside && is_async s.kind)

-- the step leads out of a body: a block, the statements in the header's line, or what a lambda gives
abbrev pub leaves_body : Bool → Step → Bool
leaves_body inside s = inside || is_block s.inner || (is_lambda s.kind && s.part == s.parts - 1)

abbrev pub body_along : (NodeKind → Bool) → Bool → List Step → Option NodeId
body_along passes inside [] = None
body_along passes inside (s ∷ ss) =
    if passes s.kind && leaves_body inside s then Some s.around else body_along passes (leaves_suite inside s) ss

-- the innermost node of a kind in whose body a node stands
abbrev pub body_around : (NodeKind → Bool) → List Node → NodeId → Option NodeId
body_around passes nodes n = body_along passes false (outward nodes n)

-- THE DEF, THE CLASS STATEMENT AND THE FUNCTION AROUND, the last being a def or a lambda: its graph runs the node. None where the module is.
abbrev pub def_around : List Node → NodeId → Option NodeId
def_around nodes n = body_around is_def nodes n

abbrev pub class_around : List Node → NodeId → Option NodeId
class_around nodes n = body_around is_class nodes n

abbrev pub function_around : List Node → NodeId → Option NodeId
function_around nodes n = body_around is_function nodes n

abbrev pub statement_along : NodeId → List Step → Option NodeId
statement_along here [] = None
statement_along here (s ∷ ss) = if holds_statements s.kind && is_single s.inner then Some here else statement_along s.around ss

-- THE STATEMENT AROUND: the innermost that the node is or is a part of, with its decorators and headers
abbrev pub statement_around : List Node → NodeId → Option NodeId
statement_around nodes n = statement_along n (outward nodes n)
