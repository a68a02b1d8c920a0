use Rattle.std.proofs.Common.{List, Option, length, ◌∙◌, subst, sym}
use Rattle.py_base.specs.declared.ids.NodeId.{NodeId}
use Rattle.flow_forms.specs.Forms.{forms_of}
use Rattle.flow_graph.specs.Numbering.{AreSubjects}
use Rattle.flow_graph.proofs.Whole.{references_right}
use Rattle.flow_graph.proofs.Closing.{closed}
use Rattle.flow_graph.proofs.filling.references.Goals as goal

pub returns-clause-right : goal.returns-clause-right
returns-clause-right c =
    references_right c.args.tree.now c.args.scopes.now.owners c.args.graph.now c.args.nodes c.in_ok-marks.marks c.in_ok-reads.reads c.in_ok-bindings.bindings
    c.in_ok-tests.tests c.in_ok-graphs.graphs c.size-size.result _ _ _ _ _ _ _ _ c.in_ok-running.running _
    c.requires.numbers c.as_slice-table.ensures (c.as_slice.ensures ∙ c.requires.bound)
    (subst (λ (l : List (Option NodeId)). AreSubjects (forms_of c.args.tree.now) (length c.args.tree.now.nodes) l) (sym c.as_slice-4.ensures) c.requires.subjects)
    c.in_ok-marks.ensures.run c.in_ok-marks.ensures.bound c.in_ok-reads.ensures c.as_slice-2.ensures c.in_ok-bindings.ensures
    c.as_slice-3.ensures c.in_ok-running.ensures c.as_slice-5.ensures c.in_ok-tests.ensures c.as_slice-6.ensures c.as_slice-7.ensures
    (c.in_ok-graphs.ensures.count ∙ c.node_count.ensures.count) c.in_ok-graphs.ensures.graphs c.as_slice-8.ensures c.size-size.ensures

pub returns-clause-closed : goal.returns-clause-closed
returns-clause-closed c =
    closed c.args.tree.now c.args.scopes.now.owners c.args.graph.now _ (returns-clause-right c)
