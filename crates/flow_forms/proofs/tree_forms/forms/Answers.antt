use Rattle.py_base.specs.declared.node.Node.{Node}
use Rattle.flow_forms.specs.Forms.{form, forms_of}
use Rattle.flow_forms.proofs.Depth.{node_step}
use Rattle.flow_forms.proofs.tree_forms.forms.Goals as goal

pub loop-at-preserved : goal.loop-at-preserved
loop-at-preserved c = node_step (λ (node : Node). form c.args.tree.now node.kind node.parts) c.args.tree.now.nodes c.loop-at.at c.node-node.result.now
    c.loop-at.list c.push.new.self (forms_of c.args.tree.now) c.in_ok-form.form
    c.node-node.ensures.value c.loop-at.invariant c.in_ok-push.ensures.ok
    (rw (← c.as_slice.ensures) c.in_ok-form.ensures)
