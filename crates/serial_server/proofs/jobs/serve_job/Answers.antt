use Rattle.std.proofs.Common.{refl}
use Rattle.session_core.specs.Jobs.{handed_view}
use Rattle.serial_server.proofs.JobsServed.{on_ok, on_err, the_job, job_leads, job_enters, job_breaks}
use Rattle.serial_server.proofs.Entering.{enters_nothing}
use Rattle.serial_server.proofs.jobs.serve_job.Goals as goal

pub returns-in-Ok-finished-clause-ok : goal.returns-in-Ok-finished-clause-ok
returns-in-Ok-finished-clause-ok g c = λ j alone. on_ok c.put_replies.result c.put_replies.ensures.ok
    (λ put. job_enters _ _ c.args.session.now c.finished.new.self c.in-Ok-finished.outs j (job_leads c.args.session.now c.finished.new.self (handed_view g.A.Analyser.text_of c.args.job) c.in-Ok.done c.in-Ok-finished.outs j alone (the_job c.args.session.now.state (handed_view g.A.Analyser.text_of c.args.job) c.requires j alone) c.in-Ok.ensures c.in-Ok-finished.ensures.finishes) c.in-Ok-finished.ensures.steps (g.K.Sink.written c.args.sink.now) (g.K.Sink.written c.put_replies.new.sink) (rw c.as_slice.ensures at put))

pub returns-in-Ok-finished-clause-err : goal.returns-in-Ok-finished-clause-err
returns-in-Ok-finished-clause-err g c = λ j alone. on_err c.put_replies.result c.put_replies.ensures.err
    (λ put. job_breaks _ _ c.args.session.now c.finished.new.self c.in-Ok-finished.outs j (job_leads c.args.session.now c.finished.new.self (handed_view g.A.Analyser.text_of c.args.job) c.in-Ok.done c.in-Ok-finished.outs j alone (the_job c.args.session.now.state (handed_view g.A.Analyser.text_of c.args.job) c.requires j alone) c.in-Ok.ensures c.in-Ok-finished.ensures.finishes) c.in-Ok-finished.ensures.steps (g.K.Sink.written c.args.sink.now) (g.K.Sink.written c.put_replies.new.sink) (rw c.as_slice.ensures at put))

pub returns-in-Ok-finished-clause-leads : goal.returns-in-Ok-finished-clause-leads
returns-in-Ok-finished-clause-leads g c = λ j alone. on_ok c.put_replies.result c.put_replies.ensures.ok
    (λ put. job_leads c.args.session.now c.finished.new.self (handed_view g.A.Analyser.text_of c.args.job) c.in-Ok.done c.in-Ok-finished.outs j alone (the_job c.args.session.now.state (handed_view g.A.Analyser.text_of c.args.job) c.requires j alone) c.in-Ok.ensures c.in-Ok-finished.ensures.finishes)

pub returns-in-Err-clause-err : goal.returns-in-Err-clause-err
returns-in-Err-clause-err g c = λ j alone. enters_nothing _ _ _ _ _ _ refl

pub returns-in-Err-finished-clause-err : goal.returns-in-Err-finished-clause-err
returns-in-Err-finished-clause-err g c = λ j alone. enters_nothing _ _ _ _ _ _ c.in-Err-finished.ensures.kept
