use Rattle.std.proofs.Common.{◌≡◌}
use Rattle.node_shapes.specs.Items.{first_ids}
use Rattle.std.specs.Prelude.{filter}
use Rattle.py_base.specs.Nodes.{kind_at}
use Rattle.node_shapes.specs.Around.{is_sought}
use Rattle.node_shapes.proofs.items.nodes_of.Given as goal

abbrev pub invariant-loop-number : goal.invariant-loop-number
invariant-loop-number l = l.nodes ≡ filter (λ n. is_sought l.sought (kind_at l.tree.nodes n)) (first_ids l.number)
