-- Chains: a name, and the names behind it by dots (Python 3.12 language reference, 6.2.1 and 6.3.1); brackets around one expression are seen
-- through.
use Rattle.std.specs.Prelude.{ℕ, zero, suc, List, [], ◌∷◌, ◌++◌, Option, None, Some}
use Rattle.py_base.specs.declared.ids.NodeId.{NodeId}
use Rattle.py_base.specs.declared.ids.NameId.{NameId}
use Rattle.py_base.specs.declared.node.Node.{Node}
use Rattle.node_shapes.specs.declared.expressions.Expression.{Expression}
use Rattle.node_shapes.specs.declared.expressions.Expression.TheVariants as form
use Rattle.node_shapes.specs.Expressions.{expression}

-- the node of the first name, and the names behind it
pub record Chain : Type 0 where
  pub first : NodeId
  pub names : List NameId

abbrev pub longer : NameId → Option Chain → Option Chain
longer name None = None
longer name (Some c) = Some (record { first = c.first; names = c.names ++ name ∷ [] })

abbrev pub chain_by : (NodeId → Option Chain) → NodeId → Expression → Option Chain
chain_by inner n (form.Name m) = Some (record { first = n; names = [] })
chain_by inner n (form.Attribute e name) = longer name (inner e)
chain_by inner n (form.Group e) = inner e
chain_by inner n _ = None

abbrev pub chain_within : ℕ → List Node → NodeId → Option Chain
chain_within zero nodes n = None
chain_within (suc left) nodes n = chain_by (chain_within left nodes) n (expression nodes n)

-- THE CHAIN THAT A NODE IS, if it is one. Parts are older nodes, so no node stands deeper than its number.
abbrev pub chain : List Node → NodeId → Option Chain
chain nodes n = chain_within (suc n.0) nodes n
