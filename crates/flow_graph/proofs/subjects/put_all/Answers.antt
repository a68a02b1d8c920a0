use Rattle.flow_graph.proofs.Subjecting.{put_none, put_next, put_done}
use Rattle.flow_graph.proofs.subjects.put_all.Goals as goal

pub loop-case-init : goal.loop-case-init
loop-case-init c = put_none c.args.subject c.args.table.now

pub loop-case-preserved : goal.loop-case-preserved
loop-case-preserved c = put_next c.args.cases.now c.loop-case.case-index c.args.subject c.args.table.now c.loop-case.table c.put.new.table
    c.loop-case-test.true c.loop-case.invariant c.put.ensures

pub returns : goal.returns
returns c = put_done c.args.cases.now c.loop-case.case-index c.args.subject c.args.table.now c.loop-case.table c.loop-case-test.false c.loop-case.invariant
