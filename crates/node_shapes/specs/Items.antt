-- The functions and the classes of a text, in the order of their nodes: a function's number is its place among defs and lambdas, and a class
-- statement's place among class statements follows the builtin classes (Python 3.12 language reference, 8.7, 6.14 and 8.8; the numbers are
-- this project's own).
use Rattle.std.specs.Prelude.{ℕ, zero, suc, ◌==◌, ◌+◌, Bool, List, [], ◌∷◌, ◌++◌, length, filter, position, Option}
use Rattle.std.specs.Option.{option_map}
use Rattle.py_base.specs.declared.ids.NodeId.{NodeId}
use Rattle.py_base.specs.declared.ids.FuncId.{FuncId}
use Rattle.py_base.specs.declared.ids.ClassId.{ClassId}
use Rattle.py_base.specs.declared.node.Node.{Node}
use Rattle.py_base.specs.declared.node.NodeKind.{NodeKind}
use Rattle.py_base.specs.Nodes.{kind_at}
use Rattle.node_shapes.specs.Kinds.{is_function, is_class}

-- the first numbers of nodes
abbrev pub first_ids : ℕ → List NodeId
first_ids zero = []
first_ids (suc n) = first_ids n ++ record { 0 = n } ∷ []

-- the nodes of some kinds, by their numbers
abbrev pub nodes_of : (NodeKind → Bool) → List Node → List NodeId
nodes_of passes nodes = filter (λ n. passes (kind_at nodes n)) (first_ids (length nodes))

pub record Numbering : Type 0 where
  pub functions : List NodeId
  pub classes : List NodeId

-- ALL DEFS AND LAMBDAS, and all class statements
abbrev pub numbering : List Node → Numbering
numbering nodes = record { functions = nodes_of is_function nodes; classes = nodes_of is_class nodes }

-- which of them a node is
abbrev pub number_among : List NodeId → NodeId → Option ℕ
number_among items n = position (λ (p : NodeId). p.0 == n.0) items

abbrev pub func_id : ℕ → FuncId
func_id i = record { 0 = i }

-- the 53 builtin classes come first
abbrev pub class_id : ℕ → ClassId
class_id i = record { 0 = 53 + i }

-- THE NUMBER OF A FUNCTION, a def statement or a lambda; none of another node
abbrev pub function_number : Numbering → NodeId → Option FuncId
function_number items n = option_map func_id (number_among items.functions n)

-- THE NUMBER OF THE CLASS of a class statement; none of another node
abbrev pub class_number : Numbering → NodeId → Option ClassId
class_number items n = option_map class_id (number_among items.classes n)
