use Rattle.std.proofs.Common.{◌≡◌, ◌++◌, drop, map}
use Rattle.py_base.specs.declared.node.Node.{Node}
use Rattle.flow_forms.specs.Forms.{form}
use Rattle.flow_forms.proofs.tree_forms.forms.Given as goal

abbrev pub invariant-loop-at : goal.invariant-loop-at
invariant-loop-at l = l.list ++ map (λ (node : Node). form l.tree node.kind node.parts) (drop l.at l.tree.nodes) ≡ map (λ (node : Node). form l.tree node.kind node.parts) l.tree.nodes
