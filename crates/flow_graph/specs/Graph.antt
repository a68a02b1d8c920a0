-- The code flow graph of a tree: the points of its graphs with their edges, and the references at them (Python 3.12 language reference,
-- sections 4.1, 4.2 and 6 to 8).
use Rattle.py_base.specs.Tree.{Arena}
use Rattle.py_scopes.specs.Table.{ScopeTable}
use Rattle.node_references.specs.Casts.{casts_of}
use Rattle.point_graph.specs.Graph.{Numbered, IsGraph}
use Rattle.flow_graph.specs.declared.table.References.{References}
use Rattle.flow_graph.specs.Table.{AreReferences}

-- what the clauses of `Graph` see
pub record Flow : Type 0 where
  pub points : Numbered
  pub references : References

-- THE FLOW OF A TREE whose names have these owners and bindings: its points and edges, where the first argument of `cast` doesn't run, and
-- the references at them
pub record IsFlow (a : Arena) (t : ScopeTable) (g : Flow) : Type 0 where
  pub points : IsGraph a (casts_of a t) g.points
  pub references : AreReferences a t.owners g.points g.references
