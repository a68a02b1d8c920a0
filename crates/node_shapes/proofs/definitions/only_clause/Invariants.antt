use Rattle.std.proofs.Common.{◌≡◌, ◌++◌, length, option_to_list}
use Rattle.py_base.specs.Nodes.{parts_at}
use Rattle.node_shapes.specs.Clauses.{clause}
use Rattle.node_shapes.specs.Definitions.{only, only_clause}
use Rattle.node_shapes.proofs.Searching.{from_place}
use Rattle.node_shapes.proofs.definitions.only_clause.Given as goal

abbrev pub invariant-loop-part : goal.invariant-loop-part
invariant-loop-part l =
    only (option_to_list l.only ++ from_place (clause l.fn.tree.nodes l.fn.statement) l.part (length (parts_at l.fn.tree.nodes l.fn.statement))) ≡ only_clause l.fn.tree.nodes l.fn.statement
