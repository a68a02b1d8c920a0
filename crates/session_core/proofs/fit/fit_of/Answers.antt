use Rattle.std.proofs.Common.{◌≡◌, ◌∙◌, ap, sym, Some, List, ℕ}
use Rattle.std.specs.Option.{option_copied}
use Rattle.session_core.specs.Finished.{Finished}
use Rattle.session_core.specs.Machine.{doc_of}
use Rattle.session_core.proofs.OpenJobs.{found_at_place, found_past_other, found_past_none}
use Rattle.session_core.proofs.fit.fit_of.Goals.{then-request-done+in_default, else-request-done}
use Rattle.session_core.proofs.fit.fit_of.Goals as goal

pub returns-in-Some : goal.returns-in-Some
returns-in-Some g c =
    let number : c.done.inside.number ≡ c.args.done.now.number = ap (λ (d : Finished). d.number) c.done.view_is in
    let file_is : doc_of c.args.files.now.entries c.request-item.result.file ≡ Some c.in-Some.file.now = ap (λ (name : List ℕ). doc_of c.args.files.now.entries name) (sym c.as_str.ensures) ∙ sym c.in-Some.ensures.value in
    rw (c.loop-request.invariant ∙ found_at_place c.args.done.now.number c.args.files.now.entries c.args.requests.now c.loop-request.request-index c.request-item.result c.in-Some.file.now c.loop-request-test.true c.request-item.is (c.if-request-done.true ∙ number) file_is) c.fit_to_request.ensures

pub loop-request-preserved : goal.loop-request-preserved
loop-request-preserved g c =
    let number : c.done.inside.number ≡ c.args.done.now.number = ap (λ (d : Finished). d.number) c.done.view_is in
    elim c.if-request-done.branch [
      | then-request-done+in_default w ↦ c.loop-request.invariant ∙ found_past_none c.args.done.now.number c.args.files.now.entries c.args.requests.now c.loop-request.request-index c.request-item.result c.loop-request-test.true c.request-item.is (ap (λ (name : List ℕ). doc_of c.args.files.now.entries name) (sym w.as_str.ensures) ∙ sym w.get.ensures.value ∙ ap option_copied w.in_default.is)
      | else-request-done w ↦ c.loop-request.invariant ∙ found_past_other c.args.done.now.number c.args.files.now.entries c.args.requests.now c.loop-request.request-index c.request-item.result c.loop-request-test.true c.request-item.is (λ e. w.if-request-done.false (e ∙ sym number))
    ]
