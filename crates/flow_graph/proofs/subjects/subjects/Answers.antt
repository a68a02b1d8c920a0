use Rattle.flow_graph.proofs.Subjecting.{subjects_next}
use Rattle.flow_graph.proofs.subjects.subjects.Goals as goal

pub loop-form-preserved : goal.loop-form-preserved
loop-form-preserved c = subjects_next c.args.forms.now c.loop-form.form-index c.form-item.result c.args.count c.loop-form.table c.put_form.new.table
    c.loop-form-test.true c.form-item.is c.loop-form.invariant c.put_form.ensures
