use Rattle.std.proofs.Common.{◌≡◌, ◌∙◌, ◌++◌, List, ap, sym, subst, Some, option_map, map, slice_get}
use Rattle.session_core.specs.Jobs.{Handed, handed_view}
use Rattle.session_core.specs.Doc.{Docs}
use Rattle.session_core.proofs.Lists.{set_value_at_same}
use Rattle.session_core.proofs.Waiting.{past_other, past_published, past_waiting}
use Rattle.session_core.proofs.jobs.push_list_jobs.Goals.{then-is_waiting+in_ok-job+in-Some+in_ok-push, then-is_waiting+in_ok-job+in_default, else-is_waiting}
use Rattle.session_core.proofs.jobs.push_list_jobs.Goals as goal

pub returns-in_err-job-clause-same : goal.returns-in_err-job-clause-same
returns-in_err-job-clause-same g c = rw c.list_job.ensures.same (set_value_at_same _ _ _ _ c.pair_mut-file.ensures.value ∙ c.loop-place.invariant.same)

pub returns-in_err-push-clause-same : goal.returns-in_err-push-clause-same
returns-in_err-push-clause-same g c = rw c.list_job.ensures.same (set_value_at_same _ _ _ _ c.pair_mut-file.ensures.value ∙ c.loop-place.invariant.same)

pub loop-place-preserved : goal.loop-place-preserved
loop-place-preserved g c =
    let file = c.pair_mut-file.result.0.now in
    let doc = c.pair_mut-file.result.1.now in
    let at : slice_get c.args.files.now.entries c.loop-place.place ≡ Some (file, doc) = subst (λ (docs : Docs). slice_get docs c.loop-place.place ≡ Some (file, doc)) c.loop-place.invariant.same c.pair_mut-file.ensures.value in
    let same = set_value_at_same c.loop-place.files.entries c.loop-place.place file doc c.pair_mut-file.ensures.value ∙ c.loop-place.invariant.same in
    let view = handed_view g.A.Analyser.text_of in
    elim c.if-is_waiting.branch [
      | then-is_waiting+in_ok-job+in-Some+in_ok-push w ↦ record {
        same = rw (w.files-is, w.list_job.ensures.same) same;
        jobs = rw (w.jobs-is, w.in_ok-push.ensures.ok) (past_waiting c.args.handed c.args.back.now c.args.files.now.entries c.loop-place.place file doc at view c.loop-place.jobs w.in-Some.job (rw (← c.job.ensures, ← c.is_waiting.ensures) w.if-is_waiting.true) (ap (option_map view) (sym w.in-Some.is) ∙ w.in_ok-job.ensures.job) ∙ c.loop-place.invariant.jobs);
      }
      | then-is_waiting+in_ok-job+in_default w ↦ record {
        same = rw (w.files-is, w.list_job.ensures.same) same;
        jobs = rw w.jobs-is (ap (λ (hs : List Handed). map view c.loop-place.jobs ++ hs) (past_published c.args.handed c.args.back.now c.args.files.now.entries c.loop-place.place file doc at (rw (← c.job.ensures, ← c.is_waiting.ensures) w.if-is_waiting.true) (ap (option_map view) (sym w.in_default.is) ∙ w.in_ok-job.ensures.job)) ∙ c.loop-place.invariant.jobs);
      }
      | else-is_waiting w ↦ record {
        same = rw w.files-is same;
        jobs = rw w.jobs-is (ap (λ (hs : List Handed). map view c.loop-place.jobs ++ hs) (past_other c.args.handed c.args.back.now c.args.files.now.entries c.loop-place.place file doc at (rw (← c.job.ensures, ← c.is_waiting.ensures) w.if-is_waiting.false)) ∙ c.loop-place.invariant.jobs);
      }
    ]
