use Rattle.std.proofs.Common.{◌≡◌, ◌∙◌, inr, [], refl}
use Rattle.std.specs.Vec.Iter.{into_iter_items}
use Rattle.serial_server.proofs.Entering.{enters_nothing}
use Rattle.serial_server.proofs.Settling.{next_job, none_left, job_settles, job_cut, nothing_left, one_fewer}
use Rattle.serial_server.proofs.jobs.settle.Goals as goal

pub returns-in-Err-clause-err : goal.returns-in-Err-clause-err
returns-in-Err-clause-err g c = enters_nothing _ _ _ _ _ _ c.in-Err.ensures.kept

pub serve_job-requires : goal.serve_job-requires
serve_job-requires g c =
    let n = next_job _ _ _ _ _ _ _ _ c.requires.one (rw c.in-Some.ensures.steps.0 at c.loop-job.invariant.part) in
    (n.0, n.2, n.3)

pub loop-job-preserved : goal.loop-job-preserved
loop-job-preserved g c =
    let n = next_job _ _ _ _ _ _ _ _ c.requires.one (rw c.in-Some.ensures.steps.0 at c.loop-job.invariant.part) in
    record {
      part = inr (record { settles = job_settles _ _ _ _ _ n.0 _ _ _ n.1 n.5 n.6 (c.in-Ok-serve_job.ensures.leads n.0 n.2) (c.in-Ok-serve_job.ensures.ok n.0 n.2); left = n.4 });
      whole = one_fewer c.in-Some.job _ _ _ _ c.in-Some.ensures.steps.0 c.in-Some.ensures.steps.1 c.loop-job.invariant.whole;
      quiet = c.serve_job.ensures.quiet (λ e. cc (c.in-Ok-serve_job.is)) ∙ c.loop-job.invariant.quiet;
    }

pub returns-in-Err-serve_job-clause-err : goal.returns-in-Err-serve_job-clause-err
returns-in-Err-serve_job-clause-err g c =
    let n = next_job _ _ _ _ _ _ _ _ c.requires.one (rw c.in-Some.ensures.steps.0 at c.loop-job.invariant.part) in
    job_cut _ _ _ _ _ n.0 _ _ _ n.1 n.5 n.6 (c.in-Err-serve_job.ensures.err n.0 n.2)

pub returns-clause-ok : goal.returns-clause-ok
returns-clause-ok g c =
    let empty : into_iter_items c.loop-job.job-iterator ≡ [] = nothing_left (into_iter_items c.loop-job.job-iterator) (c.loop-job.invariant.whole ∙ c.in-None.ensures.steps.0) in
    none_left _ _ _ _ _ _ _ c.requires.one (rw empty refl) c.loop-job.invariant.part
