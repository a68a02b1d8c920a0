use Rattle.std.proofs.Common.{◌≡◌, ◌∙◌, ap, sym, true≢false}
use Rattle.session_core.specs.Finished.{Finished}
use Rattle.session_core.proofs.OpenJobs.{list_at_place, list_past_published, list_past_other}
use Rattle.session_core.proofs.fit.fit_to_lists.Goals.{in-Some+else-not-is_published, else-not-is_published-via-then-not-is_published+else-job-done, else-not-is_published-via-else-not-is_published, in_default}
use Rattle.session_core.proofs.fit.fit_to_lists.Goals as goal

pub returns-then-job-done : goal.returns-then-job-done
returns-then-job-done g c =
    let number : c.done.inside.number ≡ c.args.done.now.number = ap (λ (d : Finished). d.number) c.done.view_is in
    rw (c.loop-place.invariant ∙ list_at_place c.args.done.now.number c.args.files.now.entries c.loop-place.place c.in-Some.name.now c.in-Some.file.now (sym c.in-Some.ensures.entry) (sym c.is_published.ensures ∙ c.if-not-is_published.true) (sym c.job.ensures ∙ c.if-job-done.true ∙ number)) c.fit_to_list.ensures

pub loop-place-preserved : goal.loop-place-preserved
loop-place-preserved g c =
    let number : c.done.inside.number ≡ c.args.done.now.number = ap (λ (d : Finished). d.number) c.done.view_is in
    elim c.match-get_index.branch [
      | in-Some+else-not-is_published w ↦ elim w.else-not-is_published.branch [
        | else-not-is_published-via-then-not-is_published+else-job-done v ↦ c.loop-place.invariant ∙ list_past_other c.args.done.now.number c.args.files.now.entries c.loop-place.place w.in-Some.name.now w.in-Some.file.now (sym w.in-Some.ensures.entry) (λ e. v.if-job-done.false (v.job.ensures ∙ e ∙ sym number))
        | else-not-is_published-via-else-not-is_published v ↦ c.loop-place.invariant ∙ list_past_published c.args.done.now.number c.args.files.now.entries c.loop-place.place w.in-Some.name.now w.in-Some.file.now (sym w.in-Some.ensures.entry) (sym w.is_published.ensures ∙ v.if-not-is_published.false)
      ]
      | in_default w ↦ absurd (true≢false (sym (rw w.in_default.is at (c.get_index.ensures.found.1 (rw c.len-place-end.ensures.len at c.loop-place-test.true)))))
    ]
